-- What the contracts of the block virtualiser say.
pub mod Requests
pub mod Serving
pub mod Clients
pub mod Ends
pub mod Lines
pub mod Desks
pub mod Openings
pub mod Works
pub mod Virtualising
