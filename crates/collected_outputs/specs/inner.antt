pub mod Listings
pub mod Matches
pub mod Names
pub mod Readings
pub mod Steps
pub mod Written
pub mod Wanted
