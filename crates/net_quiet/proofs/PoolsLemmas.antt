pub mod Carrying
pub mod Handing
pub mod Receiving
pub mod Holding
pub mod Lending
pub mod Clients
pub mod Sizing
pub mod Listing
