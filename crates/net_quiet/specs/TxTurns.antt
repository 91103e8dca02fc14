-- What the contracts of the law of turns in the sending half say.
pub mod Turning
