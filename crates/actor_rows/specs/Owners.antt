-- Journals by hand, their moves alone, and the lines of their pools: a broadcast that one client
-- records and another one answers, with one receive buffer (Broadcast), and a block that is read
-- (Reading).
pub mod Broadcast
pub mod Reading
