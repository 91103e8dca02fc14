-- What the contracts of the block clients say.
pub mod Kept
pub mod Asking
pub mod Clients
