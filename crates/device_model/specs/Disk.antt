-- What the contracts of the disk say.
pub mod Serving
pub mod Disks
