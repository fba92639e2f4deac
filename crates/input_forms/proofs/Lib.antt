pub mod Arrays
pub mod Folds
pub mod Needed
