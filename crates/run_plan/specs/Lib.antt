pub mod Brought
pub mod Costs
pub mod Planned
pub mod Touched
pub mod inner
