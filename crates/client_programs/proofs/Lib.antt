-- The proofs on the programs of network clients, block clients and hostile clients.
pub mod NetLemmas
pub mod BlkLemmas
pub mod RogueLemmas
