pub mod Marks
pub mod Lines
pub mod Readers
pub mod Reasons
pub mod Picture
pub mod Laws
pub mod Waiting
