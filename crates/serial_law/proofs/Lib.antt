-- The proofs of the laws of the serial class.
pub mod Lists
pub mod Shares
pub mod Own
pub mod InputBegins
pub mod Arrivals
pub mod Wholes
pub mod Telling
pub mod Keeping
pub mod HopsLemmas
pub mod PoolsLemmas
