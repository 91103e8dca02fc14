-- The proofs on a play of a switch.
pub mod Making
pub mod Standing
pub mod Bounding
pub mod Wanting
pub mod Resting
pub mod SwitchLaw
pub mod SwitchMoment
pub mod SwitchOwners
pub mod SwitchClass
