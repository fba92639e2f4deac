pub mod Reached
pub mod Origins
pub mod Scans
