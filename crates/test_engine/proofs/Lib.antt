mod Fetched
mod Fresh
