-- The proofs on the kit of the bus.
pub mod Places
pub mod Spelling
pub mod Answering
pub mod Replying
