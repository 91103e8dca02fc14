-- What the contracts on the generated workload say.
pub mod Draws
pub mod Lines
pub mod Generated
pub mod WorkloadLaw
