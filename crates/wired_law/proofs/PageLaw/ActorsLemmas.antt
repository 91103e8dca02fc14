pub mod Filling
pub mod Pages
pub mod Plain
pub mod Serving
pub mod Sending
pub mod Receiving
pub mod Serial
