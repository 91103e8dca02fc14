pub mod Leaving
pub mod Waiting
pub mod Passing
pub mod Reaching
