pub mod Steps
pub mod SummedCopy
pub mod Taken
pub mod Variables
