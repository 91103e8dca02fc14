-- How a name stands in a constant's name (Code), the lines of the header (Lines), and which lines a
-- plan has (Config).
pub mod Code
pub mod Config
pub mod Lines
