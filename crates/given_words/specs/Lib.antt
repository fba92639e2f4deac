pub mod Budget
pub mod Others
pub mod Preference
pub mod Processors
pub mod Slots
