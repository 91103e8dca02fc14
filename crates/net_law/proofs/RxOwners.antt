pub mod Virtualisers
pub mod Serving
pub mod Receivers
pub mod Lending
