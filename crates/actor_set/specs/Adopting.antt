-- What holds of actors that forget their last looks.
pub mod Looks
