pub mod Piece
pub mod Taken
