pub mod Rounds
pub mod Nearest
pub mod Pushed
pub mod Lists
pub mod Farther
pub mod Searched
pub mod Sent
pub mod Flows
