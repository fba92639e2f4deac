pub mod Depths
pub mod Fits
pub mod inner
pub mod Levels
pub mod Overlaps
