-- The pools of the block class as its actors have them: what the items of its queues name, by the
-- number of the first, and what is asked of an actor's pools (Naming).
pub mod Naming
