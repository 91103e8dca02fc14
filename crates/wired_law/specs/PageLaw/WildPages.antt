-- Buffers that go round between a hostile client and those that serve it.
pub mod Rounds
