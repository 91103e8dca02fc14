pub mod Plain
pub mod Serving
pub mod Summing
pub mod Opening
pub mod Resting
