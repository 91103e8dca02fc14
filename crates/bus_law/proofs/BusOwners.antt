-- The proofs on the owners of the buffers of a bus.
pub mod Names
pub mod Clients
pub mod Plainly
pub mod Serving
pub mod Actors
pub mod Seating
pub mod Keeping
pub mod Replaying
