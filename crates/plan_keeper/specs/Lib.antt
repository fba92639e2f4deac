pub mod Free
pub mod Loads
pub mod Apart
pub mod Kept
pub mod Laws
