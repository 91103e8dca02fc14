-- The kept list of the runnable actors (Runnings).
pub mod Runnings
pub mod Calls
