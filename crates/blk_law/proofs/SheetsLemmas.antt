pub mod Plain
pub mod Serving
pub mod Following
pub mod Items
pub mod Splitting
pub mod Virtual
