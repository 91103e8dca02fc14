pub mod Having
pub mod Counts
pub mod Telling
pub mod Holding
pub mod Carrying
pub mod Naming
pub mod Seats
