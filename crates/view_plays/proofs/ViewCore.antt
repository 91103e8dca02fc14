pub mod DecisionLemmas
pub mod ViewLemmas
pub mod WordLemmas
pub mod WrittenLemmas
