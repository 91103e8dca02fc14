pub mod Core
pub mod Words
pub mod Standing
pub mod Turns
pub mod Holding
pub mod Dropping
