-- What the contracts of the switch say.
pub mod Switching
pub mod Standing
pub mod Finding
pub mod Carried
