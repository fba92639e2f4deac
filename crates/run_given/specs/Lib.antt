pub mod Caches
pub mod Held
pub mod Named
pub mod Paths
pub mod Sources
pub mod Stops
