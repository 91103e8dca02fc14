pub mod Seating
pub mod Adding
pub mod Timing
pub mod Listing
pub mod Going
pub mod Popping
