-- The serial class among the pools: the ends of its actors.
pub mod SerialEnds
