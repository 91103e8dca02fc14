-- The proofs that calls over rings stand in one order, and on what the rings leave.
pub mod Lists
pub mod Telling
pub mod Resting
pub mod Moving
pub mod Looking
pub mod Ranking
pub mod Ordering
pub mod ActorParts
pub mod EndedLemmas
