pub mod Addresses
pub mod Words
pub mod Grown
pub mod SoFar
