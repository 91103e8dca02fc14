-- The plans that the generated traces are for.
pub mod Clients
