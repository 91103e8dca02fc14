-- What the bound on steps says.
pub mod Calm
