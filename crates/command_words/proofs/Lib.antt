mod Commands
pub mod FirstBad
mod Inverted
pub mod Letters
mod Limits
pub mod Names
mod Numbers
pub mod Once
mod OneNumber
mod SoFar
mod Steps
pub mod PlayWords
