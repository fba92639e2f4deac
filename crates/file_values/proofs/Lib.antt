pub mod Cuts
pub mod Escapes
pub mod FileUrl
pub mod Finding
pub mod Levels
pub mod Slashes
pub mod Summing
pub mod Urls
