pub mod DecisionLemmas
pub mod GenLemmas
pub mod JudgedLemmas
pub mod LastLemmas
pub mod PlayableLemmas
pub mod SettleLemmas
pub mod WordLemmas
pub mod ShelfCore
