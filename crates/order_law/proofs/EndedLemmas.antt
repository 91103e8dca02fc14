pub mod Lists
pub mod Leaving
pub mod Resting
pub mod Rounds
