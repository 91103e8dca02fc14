-- The buffers of a switch's system: what its items name and who has what at the start (Owning), and
-- where they are after a journal (Lines).
pub mod Owning
pub mod Lines
