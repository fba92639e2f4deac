pub mod ByName
pub mod Lookup
pub mod Once
pub mod Place
