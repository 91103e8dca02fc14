-- The lines of all pools, by the table of owners and as a program counts them.
pub mod PoolLines
