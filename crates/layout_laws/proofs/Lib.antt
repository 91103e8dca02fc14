-- The proofs on the layouts of valid plans.
pub mod Lists
pub mod Found
pub mod Queues
pub mod Pools
pub mod Acting
pub mod Once
pub mod Ranges
pub mod Keys
pub mod Spreads
pub mod Owners
pub mod Rooms
pub mod Tables
pub mod JobsLemmas
pub mod SeatsLemmas
pub mod RegionLaws
