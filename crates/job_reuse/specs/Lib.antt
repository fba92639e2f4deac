pub mod Form
pub mod Laws
pub mod Left
pub mod Places
pub mod Rows
pub mod Sound
pub mod inner
