-- What the contracts of the sending virtualiser of the network say.
pub mod Descriptors
pub mod Waitings
pub mod Queued
pub mod Serving
pub mod Clients
pub mod Traffics
pub mod Sending
