-- What the contracts of the partition table say.
pub mod Sectors
pub mod Partitions
