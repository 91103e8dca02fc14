pub mod LineLemmas
mod QueueLemmas
mod RunLemmas
mod HexLemmas
mod RegionLemmas
