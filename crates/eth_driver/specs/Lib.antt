-- What the contracts of the Ethernet driver say.
pub mod Four
pub mod Rows
