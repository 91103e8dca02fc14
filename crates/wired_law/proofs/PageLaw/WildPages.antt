-- The lemmas of this room.
pub mod Rounds
