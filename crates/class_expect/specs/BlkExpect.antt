-- What the contracts on answers to block clients say.
pub mod Judging
pub mod Replies
pub mod BlkKit
