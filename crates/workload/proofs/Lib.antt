mod Drawing
pub mod WorkloadLaw
