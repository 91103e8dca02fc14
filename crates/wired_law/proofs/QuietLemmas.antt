pub mod Rows
pub mod Quieting
pub mod Answering
