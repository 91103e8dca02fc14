pub mod Answers
pub mod Copying
pub mod Asking
pub mod Merging
pub mod Windows
pub mod Serving
