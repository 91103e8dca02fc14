-- The layout of a plan (Layouts): where its regions lie (Bases), its actors, and its queues and
-- pools, which are the rows of the table of classes (Rows), and the numbers for which rows have
-- room (Sizes, Uses).
pub mod Bases
pub mod Rows
pub mod Uses
pub mod Layouts
pub mod Sizes
