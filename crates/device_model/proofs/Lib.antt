-- The proofs on the devices.
pub mod EthernetLemmas
pub mod DiskLemmas
pub mod SerialTerminal
