-- The proofs on the actors of the bus as one type.
pub mod Queueing
pub mod Places
pub mod Fresh
pub mod Making
pub mod Beginning
