-- The pools of a cast: its actors as ones that have buffers (Holders), its hostile clients (Rogues),
-- where the classes with pools stand in it (Places), a cast at play whose buffers are followed
-- (Pooling), what entries carry beside hostile clients (Beside), and owners beside them (Owning).
pub mod Holders
pub mod Rogues
pub mod Places
pub mod Pooling
pub mod Beside
pub mod Owning
