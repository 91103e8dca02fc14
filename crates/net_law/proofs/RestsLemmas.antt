pub mod Plain
pub mod Clients
pub mod Counting
pub mod Receiving
pub mod Resting
