-- What a class says of its actors: what each keeps in hand (Keepers), and what each wants of its
-- ends (Wants).
pub mod Keepers
pub mod Wants
