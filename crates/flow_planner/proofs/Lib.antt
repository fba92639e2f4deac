pub mod Arcs
pub mod Laid
pub mod Begin
pub mod Bounds
pub mod Conserved
pub mod Certify
pub mod Read
pub mod Separated
