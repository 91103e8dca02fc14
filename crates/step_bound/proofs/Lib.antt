pub mod Sums
pub mod Paying
pub mod Counting
pub mod Walking
pub mod Law
