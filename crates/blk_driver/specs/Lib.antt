-- What the contracts of the block driver say.
pub mod Rows
