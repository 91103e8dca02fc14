pub mod GridLemmas
pub mod DrawLemmas
pub mod ColumnLemmas
