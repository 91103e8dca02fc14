-- The proofs on a client of the bus.
pub mod Lists
pub mod Paging
pub mod Standing
pub mod Making
