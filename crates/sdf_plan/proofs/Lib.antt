pub mod WalkLemmas
pub mod ClassTable
