pub mod Numbers
pub mod Pieces
pub mod Rows
pub mod DataPieces
pub mod PortsText
