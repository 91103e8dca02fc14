-- The proofs of the helpers of these rows.
pub mod Fitting
pub mod Driving
pub mod Merging
pub mod NetTx
pub mod Emptiness
pub mod Sizing
pub mod Beside
