-- The proofs on what a switch holds.
pub mod Orders
pub mod Owing
pub mod Places
pub mod Moves
pub mod Beginning
