-- The proofs of where the buffers of a cast are.
pub mod ActorsLemmas
pub mod DiskLemmas
pub mod LawLemmas
pub mod TurnsLemmas
pub mod WildPages
