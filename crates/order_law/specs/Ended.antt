-- What rings that came to their end leave: tracks of their queues (Tracks), and queues that go on
-- from them (Leaving).
pub mod Tracks
pub mod Leaving
