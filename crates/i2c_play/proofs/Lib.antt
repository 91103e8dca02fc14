-- The proofs on the play of a bus.
pub mod Fitting
pub mod Reporting
