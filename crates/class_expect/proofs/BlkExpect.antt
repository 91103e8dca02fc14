pub mod Whole
pub mod BlkKit
