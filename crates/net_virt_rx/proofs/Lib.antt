pub mod Marking
pub mod Naming
pub mod Standing
pub mod Working
pub mod Moving
pub mod Steps
pub mod Rounds
