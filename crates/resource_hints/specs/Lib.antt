pub mod Amounts
pub mod Hints
pub mod Laws
pub mod Told
