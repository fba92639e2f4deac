pub mod Alone
pub mod Marked
pub mod Remarked
pub mod Freed
pub mod Grown
