-- What the contracts of the table of the network's sending virtualiser say.
pub mod Parts
pub mod Rows
pub mod Table
pub mod Playing
pub mod Numbers
