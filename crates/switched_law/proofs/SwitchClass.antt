-- The proofs on the actors of a switch's system.
pub mod Membering
pub mod Queueing
pub mod Lanes
pub mod Listing
pub mod Starts
pub mod SwitchStarts
pub mod Beginning
