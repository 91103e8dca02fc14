-- The owners of buffers: what items carry from owner to owner (Things), the table of owners with
-- its replay of a journal and `OneOwner` (Owners), what an actor may put for what it had and took,
-- and what the lists of all actors show of the table (Keeping: `Keeps`, `IsShownBy`, `IsOwned`),
-- the table that a history shows (Shown), how many of a pool's buffers stand where (Census), where
-- their pages are (Pages), counts over all actors and queues (Counts), and the lines of pools in a
-- report (Pools). A class gives its `Naming`, and shows `PutsItsOwn` of the sheet of each of its
-- actors; the laws are in src/; for proofs above: Casts (a cast by its sheets) and Named (sums over
-- what items name).
pub mod Things
pub mod Owners
pub mod Keeping
pub mod Shown
pub mod Census
pub mod Pages
pub mod Counts
pub mod Pools
