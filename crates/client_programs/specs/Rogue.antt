-- What the contracts of the hostile client say.
pub mod Acts
pub mod Clients
