pub mod Numbers
pub mod Entries
pub mod Sends
pub mod Wholes
