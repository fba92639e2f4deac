mod Alike
mod Defaults
pub mod Dollars
pub mod EmptyText
pub mod FilelessDefaults
pub mod Forms
mod Ignored
mod KeptFields
pub mod KeptTools
mod KeptTypes
pub mod Levels
mod ReadMaps
pub mod Requirements
pub mod Slashes
pub mod Sources
