-- The proofs on the actors of the bus.
pub mod Serving
pub mod Owning
pub mod Desking
pub mod Working
pub mod Ordering
pub mod Due
pub mod Stepping
pub mod Turning
pub mod Lowest
pub mod Loosening
pub mod Resting
pub mod Settling
pub mod Rows
pub mod Starting
pub mod I2cKit
pub mod I2cClient
