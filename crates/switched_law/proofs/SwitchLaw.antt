-- The proofs on what ports get.
pub mod Going
pub mod Merging
