pub mod Skipping
pub mod Fitting
pub mod Counting
pub mod Stepping
pub mod Following
pub mod Owning
