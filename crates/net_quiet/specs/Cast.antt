-- The network's receive half at the layout's queues, apart from any system.
pub mod Casting
