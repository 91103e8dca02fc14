-- The proofs on actors in their wrappings.
pub mod Seats
pub mod Acting
