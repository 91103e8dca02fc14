-- What the contracts of the ends of one actor over rings say.
pub mod Times
pub mod Places
pub mod Inside
pub mod Went
pub mod Wildness
