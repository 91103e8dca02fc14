-- A play of a switch between clients (Playing), and what each of its actors wants by its own state
-- (Wants).
pub mod Playing
pub mod Wants
pub mod SwitchLaw
pub mod SwitchMoment
pub mod SwitchOwners
pub mod SwitchClass
