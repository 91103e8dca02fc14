-- The play of a switch's ports: how many steps are enough for it (Bounds), the lines of its pools
-- (Lines), what its report tells (Reporting), and what it comes to (Playing).
pub mod Bounds
pub mod Lines
pub mod Reporting
pub mod Playing
