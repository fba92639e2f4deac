pub mod Declared
pub mod Index
pub mod Stands
