pub mod Codes
pub mod Laws
pub mod Location
pub mod Names
pub mod Resolved
pub mod Sum
