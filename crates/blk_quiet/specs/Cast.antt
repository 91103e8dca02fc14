-- The block class at the layout's queues, apart from any system.
pub mod Casting
pub mod Lengths
