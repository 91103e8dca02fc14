-- What the laws of the block class say: of a run of blocks (Runs) and of replies (Replying,
-- Records), of the tables of its actors (Sheets; VirtScene: where clients may be hostile), of the
-- owners of buffers (Owners), and of how often entries are moved (Hops).
pub mod Runs
pub mod Replying
pub mod Records
pub mod Sheets
pub mod VirtScene
pub mod Hops
pub mod Owners
