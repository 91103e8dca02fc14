-- The proofs of the rows' helpers.
pub mod Moved
pub mod Started
pub mod SeatsLemmas
