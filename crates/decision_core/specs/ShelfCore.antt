-- What shelves give, what sinks take, and what is read of a text.
pub mod FaultPlans
pub mod Files
pub mod Names
pub mod Outside
pub mod Reading
pub mod Shelves
pub mod Sunk
pub mod Sure
