-- The limits of what was read from a text.
pub mod Limits
