-- What the contracts of drivers say.
pub mod Drivers
pub mod Lengths
