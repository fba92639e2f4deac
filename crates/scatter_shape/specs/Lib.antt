pub mod Codes
pub mod Gathered
pub mod Laws
pub mod Lengths
pub mod Tuples
