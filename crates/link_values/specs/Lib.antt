pub mod Codes
pub mod Merged
pub mod Picked
pub mod Refused
pub mod StepInputs
