mod InMemory
pub mod ReadBack
mod Losing
mod InStep
