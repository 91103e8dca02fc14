pub mod Acting
pub mod Counting
pub mod Beside
pub mod Lending
pub mod Holding
pub mod Once
pub mod Showing
