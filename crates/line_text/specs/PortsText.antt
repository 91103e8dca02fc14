-- The ports of a switch as texts: what each line says (Lines), which lines are bad and what the
-- others give (Given), and what the reader keeps (Reading).
pub mod Lines
pub mod Given
pub mod Reading
