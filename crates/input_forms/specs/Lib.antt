pub mod Laws
pub mod Lines
pub mod Samples
pub mod Templates
pub mod Wanted
