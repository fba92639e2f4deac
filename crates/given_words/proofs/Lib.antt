pub mod Cuts
pub mod Listed
pub mod Lists
pub mod OtherWords
pub mod TwoWords
