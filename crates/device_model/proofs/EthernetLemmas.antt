pub mod Core
pub mod Dropping
pub mod Standing
pub mod Turns
pub mod Holding
