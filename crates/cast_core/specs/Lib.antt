-- The actors of a plan: what each is made of (Casts) and what it gets from the plan and a trace
-- (Sources, Hostile), and inside, by which queue its job is known (Known), and what it is made from
-- (Making).
pub mod Sources
pub mod Hostile
pub mod Casts
pub mod Known
pub mod Making
