pub mod Limits
pub mod Replying
pub mod Isolating
