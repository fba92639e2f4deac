pub mod Depths
pub mod Parts
