pub mod Inside
pub mod Disks
pub mod Clients
pub mod Casts
