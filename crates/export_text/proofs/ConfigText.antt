pub mod CodeLemmas
pub mod LineLemmas
