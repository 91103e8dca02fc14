-- The proofs on casts that have the whole network and the whole block class.
pub mod Acting
pub mod Deeds
pub mod Blocks
pub mod Wiring
pub mod TurningLemmas
pub mod BlkReplies
pub mod QuietLemmas
pub mod PageLaw
