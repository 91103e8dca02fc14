-- What the contracts of the sending virtualiser's table for clients of both sorts say.
pub mod Rows
pub mod Table
pub mod Playing
