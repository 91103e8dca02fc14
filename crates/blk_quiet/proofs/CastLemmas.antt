pub mod Numbers
pub mod Answers
pub mod Judging
pub mod Turning
pub mod Lengths
pub mod Clients
