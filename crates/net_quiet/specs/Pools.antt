-- The pools of the network as its actors have them: what an actor has of each pool (Holders), and
-- how many buffers a pool has by its number (Sizes).
pub mod Holders
pub mod Sizes
