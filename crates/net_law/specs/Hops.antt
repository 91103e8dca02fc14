-- What the law on the moves of the network says.
pub mod Hops
