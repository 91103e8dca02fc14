-- What the contracts of the block virtualiser's table for clients of both sorts say.
pub mod Rows
pub mod Table
pub mod Playing
