pub mod Archive
pub mod Copied
pub mod Launched
pub mod Listing
pub mod Machine
pub mod Targets
pub mod inner
