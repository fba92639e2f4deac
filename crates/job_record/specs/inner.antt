pub mod Crash
pub mod Inside
pub mod Lacking
pub mod Opened
