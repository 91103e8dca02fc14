pub mod Counting
pub mod Forgets
pub mod Holding
pub mod Moved
pub mod Rounds
