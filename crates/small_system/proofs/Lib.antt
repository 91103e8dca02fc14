-- The proofs on the player.
pub mod Posts
pub mod Step
pub mod Telling
pub mod Keeping
pub mod Playing
pub mod Listing
pub mod Wanting
pub mod Paced
pub mod SmallLaw
