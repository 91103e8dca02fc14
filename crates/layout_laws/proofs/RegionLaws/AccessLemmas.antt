pub mod Decide
pub mod Words
pub mod Kept
pub mod Links
pub mod Interrupts
pub mod Reached
pub mod Placed
pub mod Stacked
