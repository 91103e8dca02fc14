-- The proofs on the whole network, at any moment and where nobody is runnable.
pub mod Listing
pub mod Leases
pub mod Sending
pub mod Receiving
pub mod Wholes
pub mod Waiting
pub mod CastLemmas
pub mod TxTurns
pub mod TxCast
pub mod PoolsLemmas
pub mod TxOwners
