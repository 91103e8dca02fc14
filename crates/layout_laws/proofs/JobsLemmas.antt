pub mod Standing
pub mod Having
pub mod Owning
