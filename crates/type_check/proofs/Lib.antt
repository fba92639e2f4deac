pub mod Depths
pub mod Kept
pub mod Meets
pub mod Noted
pub mod Rounds
pub mod Sought
pub mod Tests
pub mod Weights
