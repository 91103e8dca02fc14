-- What a call leaves as the last name (Lasting).
pub mod Lasting
