-- The owners of the buffers of a bus: what the items of its queues name (Naming), which ends and
-- which buffers each of its actors has at the start (Keepers), and the lines of its pools (Pools).
pub mod Naming
pub mod Keepers
pub mod Pools
