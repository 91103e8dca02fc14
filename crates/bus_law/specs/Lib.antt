-- What the laws on a bus at play say: which requests were taken, by the calls and the asks alone
-- (Takes), what a play of a bus is (Plays), how many steps it may have (Bounds), and what its
-- actors want of their ends, by what passed alone (Wants).
pub mod Takes
pub mod Plays
pub mod Bounds
pub mod Wants
pub mod I2cLaw
pub mod BusOwners
pub mod I2cActors
