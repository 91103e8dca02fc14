pub mod Steps
pub mod Splits
pub mod Finds
pub mod Carrying
