pub mod Pages
pub mod Asks
pub mod Standing
