-- What the laws on regions and budgets say: who reaches regions and where they lie (Access), and
-- what the step budget counts (Budgets).
pub mod Access
pub mod Budgets
