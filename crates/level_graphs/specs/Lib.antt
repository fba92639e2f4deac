pub mod Arcs
pub mod Levels
pub mod Blocked
pub mod Flow
pub mod inner
