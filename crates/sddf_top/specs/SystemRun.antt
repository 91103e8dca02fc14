-- What a run on threads shows.
pub mod Ran
