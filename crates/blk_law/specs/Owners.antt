-- The owners of the block class's buffers: what items name at the queues of each of its actors
-- (Answering).
pub mod Answering
