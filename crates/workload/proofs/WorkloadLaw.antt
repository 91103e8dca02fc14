pub mod Texts
pub mod Lines
pub mod Generated
pub mod Example
pub mod Kept
pub mod Refuting
pub mod Ruled
pub mod Accepted
