-- What the contracts of drawn plays say: what the words decide (Deciding), and
-- what becomes of the answer (Viewed).
pub mod Deciding
pub mod Viewed
pub mod ToldPlays
pub mod ViewCore
pub mod PlayView
