pub mod Climbs
pub mod Places
