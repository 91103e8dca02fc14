pub mod Sums
pub mod Owners
pub mod Bounding
pub mod Classes
