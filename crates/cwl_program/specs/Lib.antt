pub mod Certificates
pub mod Demo
pub mod Tells
