pub mod Codes
pub mod Glob
pub mod Groups
pub mod Laws
pub mod Placing
pub mod Plan
pub mod Reading
pub mod inner
