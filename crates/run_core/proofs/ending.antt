-- What callers are told: what the machine asks, and what came of its run.
pub mod Asking
pub mod Concluding
pub mod Halting
