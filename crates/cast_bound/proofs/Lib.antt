-- The proofs on the length of a play.
pub mod Sources
pub mod Networks
pub mod Blocks
pub mod Drops
pub mod Bounds
pub mod PlayBound
