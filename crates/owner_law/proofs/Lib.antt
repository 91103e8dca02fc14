-- The proofs on the owners of buffers.
pub mod Sums
pub mod Tables
pub mod Lists
pub mod Ends
pub mod Finding
pub mod Steps
pub mod Replays
pub mod Counting
pub mod Starts
pub mod Named
pub mod Casts
pub mod Showing
pub mod Adopted
pub mod Carrying
pub mod CountsLemmas
pub mod PoolsLemmas
