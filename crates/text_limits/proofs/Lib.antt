pub mod Totals
pub mod BusLimits
pub mod PortLimits
pub mod FrameLimits
