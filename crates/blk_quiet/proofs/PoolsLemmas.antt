pub mod Alike
pub mod Carrying
pub mod Asking
pub mod Serving
pub mod Holding
pub mod Naming
pub mod Sizing
