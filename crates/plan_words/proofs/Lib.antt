pub mod Texts
pub mod Counts
pub mod Pruned
pub mod OtherMarks
