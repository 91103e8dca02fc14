-- What the law on the length of a play says.
pub mod Standing
