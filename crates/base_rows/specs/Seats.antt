-- What the contracts of an actor over rings say.
pub mod Starting
