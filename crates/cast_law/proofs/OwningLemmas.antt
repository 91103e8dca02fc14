-- Owners of buffers beside hostile clients.
pub mod Windows
pub mod Facts
pub mod Hiding
pub mod Keeping
pub mod Beginning
pub mod Plain
pub mod Past
pub mod Blanking
pub mod Lining
pub mod Unlent
