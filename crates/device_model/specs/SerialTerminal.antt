-- What the contracts of terminals say.
pub mod Terminals
