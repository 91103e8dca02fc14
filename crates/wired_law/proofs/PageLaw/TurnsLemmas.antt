-- Nothing comes out of turn.
pub mod Ways
pub mod Heavy
pub mod Turning
