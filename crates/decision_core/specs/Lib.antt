-- What the words and the texts under their names decide.
pub mod Codes
pub mod Decided
pub mod Decisions
pub mod Generating
pub mod Judged
pub mod Leading
pub mod Naming
pub mod Readings
pub mod Settled
pub mod ShelfCore
