-- What the contracts of the serial virtualisers say.
pub mod Sending
pub mod Forgetting
pub mod Shares
pub mod Receiving
