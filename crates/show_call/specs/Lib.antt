pub mod Showings
