pub mod Few
pub mod Actors
pub mod Drivers
pub mod Copiers
pub mod Clients
pub mod Lenders
