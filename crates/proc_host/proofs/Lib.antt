pub mod Failures
pub mod Rows
pub mod Running
pub mod Told
