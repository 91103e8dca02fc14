pub mod Windows
pub mod Owning
pub mod Carrying
pub mod Holding
pub mod Naming
