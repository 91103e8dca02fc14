pub mod At
pub mod Numbered
pub mod Whole
pub mod Everywhere
pub mod Order
pub mod Flat
