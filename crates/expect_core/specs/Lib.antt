-- What the contracts on the step budget, on the replies that a client must get, and on two plays
-- say.
pub mod Budgets
pub mod Expected
pub mod Isolation
