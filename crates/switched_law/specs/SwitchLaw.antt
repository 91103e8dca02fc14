-- What the law on a switch's ports says: what each port must get of what each sends (Ports).
pub mod Ports
