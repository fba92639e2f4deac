pub mod Blame
pub mod ByMap
pub mod FirstPlan
pub mod Gains
pub mod inner
