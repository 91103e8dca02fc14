-- What the law on the moves of the block class says.
pub mod Hops
