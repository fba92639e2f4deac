pub mod Network
pub mod inner
