-- What the contracts of the player say: what an actor means (Meanings), the moments of a play and
-- the tale of its turns (Tales), what holds at a moment (Standing), what a player shows and what a
-- play does (Shows), what rests by wants (Wants), and what a player keeps (Inside).
pub mod Meanings
pub mod Tales
pub mod Standing
pub mod Shows
pub mod Wants
pub mod Inside
pub mod SmallLaw
