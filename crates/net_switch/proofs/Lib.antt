-- The proofs on a switch.
pub mod Fits
pub mod Rounds
pub mod Takes
pub mod Steps
pub mod Calls
pub mod Turning
pub mod Row
pub mod SwitchDesk
