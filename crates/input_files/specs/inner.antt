pub mod Folders
pub mod Grouped
