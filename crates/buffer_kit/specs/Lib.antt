-- What the contracts that actors with buffers share say: of entries (Entries), pools and the
-- buffers that are still to be given (Pools, Stocks), buffers counted one by one (Conserving),
-- pipes that record (Recorders), the ends of virtualisers (Virtualising), and what they keep of
-- their clients (Clients).
pub mod Entries
pub mod Pools
pub mod Stocks
pub mod Conserving
pub mod Recorders
pub mod Virtualising
pub mod Clients
