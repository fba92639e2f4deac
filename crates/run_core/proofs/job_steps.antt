-- The open work on a job, step by step.
pub mod Turns
pub mod Sites
pub mod Calls
pub mod Firsts
pub mod Staged
pub mod Filled
pub mod Listed
pub mod Read
pub mod Started
pub mod Failed
pub mod Found
pub mod Discarded
pub mod Fetched
pub mod Ended
pub mod Stored
