pub mod Core
pub mod Machine
pub mod Order
pub mod inner
