pub mod Members
pub mod Parted
