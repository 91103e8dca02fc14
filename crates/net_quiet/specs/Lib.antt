-- The whole network where nobody is runnable (Still; Holding: where nothing is dropped), and at any
-- moment: its receive half (Cast), the whole of it (TxCast, TxTurns), its pools (Pools), and the
-- sending virtualiser among the owners of buffers (TxOwners).
pub mod Still
pub mod Cast
pub mod TxTurns
pub mod TxCast
pub mod Pools
pub mod TxOwners
pub mod Holding
