pub mod Giving
pub mod Opens
pub mod Numbers
pub mod Apart
pub mod Places
pub mod Standing
pub mod Numbering
pub mod Hosting
