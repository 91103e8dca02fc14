-- The proofs on the play of a switch's ports.
pub mod Reports
pub mod Able
pub mod Played
