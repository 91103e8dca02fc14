-- The proofs on the whole block class, at any moment and where nobody is runnable.
pub mod Counting
pub mod Answering
pub mod CastLemmas
pub mod PoolsLemmas
