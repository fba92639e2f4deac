pub mod Rounds
pub mod Search
