-- Which entries are drops (Dropping), and what the laws on the length of a play say (PlayBound).
pub mod Dropping
pub mod PlayBound
