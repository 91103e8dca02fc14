pub mod Pieces
pub mod Words
pub mod Grown
pub mod SoFar
