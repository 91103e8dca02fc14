-- Who reaches the regions of queues and pools (Access), and where regions and queues are placed
-- (Placing): said of domains, maps, letters and channels, so that no table of the rules is cited.
pub mod Access
pub mod Placing
