pub mod Held
pub mod Looks
pub mod Mapped
pub mod Numbered
pub mod Told
