-- The proofs on one moment of a switch's system.
pub mod Taking
pub mod Sized
pub mod Ports
pub mod Sums
pub mod Telling
pub mod Counting
pub mod Records
pub mod Putting
pub mod Facts
pub mod Still
pub mod Meeting
pub mod Owed
pub mod Leaving
pub mod Wanting
