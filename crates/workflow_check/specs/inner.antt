pub mod Indexed
pub mod Linked
pub mod Ports
pub mod Ranks
pub mod Seen
pub mod Ways
