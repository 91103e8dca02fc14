-- The proofs on the owners of a switch's buffers.
pub mod Naming
pub mod Ways
pub mod Seats
pub mod Spread
pub mod Actors
pub mod Keepers
pub mod Carried
pub mod Counted
