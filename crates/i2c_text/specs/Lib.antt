-- Buses as texts: lines and words (Texts), what each line says (Lines), which lines are bad and
-- what the others give (Buses), and what the reader keeps (Reading).
pub mod Texts
pub mod Lines
pub mod Buses
pub mod Reading
