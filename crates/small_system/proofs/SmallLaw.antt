-- The proofs on classes.
pub mod Keeping
pub mod Resting
pub mod Bounding
