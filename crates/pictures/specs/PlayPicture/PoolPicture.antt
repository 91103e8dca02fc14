-- What the contracts of the picture of pools say: rows (Rows), and the whole (Pictures).
pub mod Rows
pub mod Pictures
