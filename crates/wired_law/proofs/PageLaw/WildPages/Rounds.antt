pub mod Going
pub mod Serving
pub mod Asking
pub mod Writing
