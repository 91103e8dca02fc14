pub mod Seats
pub mod Wholes
pub mod Tables
