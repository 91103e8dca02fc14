pub mod Sums
pub mod Queues
pub mod Moves
