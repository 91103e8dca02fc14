-- The proofs on what actors with buffers share.
pub mod Addresses
pub mod Filling
pub mod Counts
pub mod Conserving
pub mod TwoLists
pub mod VirtTurns
pub mod VirtFits
pub mod Places
pub mod Forgets
pub mod Passing
pub mod ManyClients
