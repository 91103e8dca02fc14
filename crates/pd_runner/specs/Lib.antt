-- What the contracts of a run on threads say.
pub mod Running
pub mod Each
pub mod Begun
pub mod Ends
pub mod Facing
pub mod Seated
