-- What the machine keeps, beside the events of its run.
pub mod Kept
pub mod Numbers
pub mod Keeping
pub mod Reflecting
pub mod Learning
pub mod Families
pub mod Losses
pub mod Tried
