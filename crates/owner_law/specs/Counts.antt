-- Counting over all actors and all queues. `KeepTheirs` tells of which moments the law speaks,
-- which is in src/counts.rt; what it counts is told in Owners.
pub mod Keeping
