pub mod Sending
pub mod Resting
