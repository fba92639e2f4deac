pub mod entries
