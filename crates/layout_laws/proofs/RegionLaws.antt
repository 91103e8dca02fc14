-- The proofs on regions and budgets.
pub mod AccessLemmas
pub mod BudgetsLemmas
