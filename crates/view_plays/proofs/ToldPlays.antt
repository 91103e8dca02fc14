-- Lemmas of plays in slices.
pub mod SliceLemmas
