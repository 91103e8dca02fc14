-- What the law on the moves of the serial class says.
pub mod Hops
