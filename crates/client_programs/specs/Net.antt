-- What the contracts of the network client say.
pub mod Programs
pub mod Sending
pub mod Clients
