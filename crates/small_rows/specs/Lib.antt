-- What the actors of the plans mean to the player of any kind.
pub mod Wrappings
pub mod WrappingLaws
