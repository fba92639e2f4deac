pub mod Located
pub mod Stops
