mod PoolLemmas
mod ReplyLemmas
mod CalmLemmas
mod KindLemmas
mod PlayLemmas
pub mod ToldPlays
pub mod ViewCore
pub mod PlayView
