-- The whole network at the layout's queues, apart from any system.
pub mod Casting
