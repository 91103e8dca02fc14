pub mod Places
pub mod Actors
pub mod Weights
pub mod Counts
pub mod Most
