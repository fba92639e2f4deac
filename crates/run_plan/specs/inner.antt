pub mod Again
pub mod Flagged
pub mod Kept
