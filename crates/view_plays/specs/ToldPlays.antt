-- What the contracts of plays that tell how far they are say (Progress).
pub mod Progress
