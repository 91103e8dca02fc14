-- What the law on a block client's record says.
pub mod Served
