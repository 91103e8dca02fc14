-- What is drawn of a play (Drawn).
pub mod Drawn
pub mod PageText
