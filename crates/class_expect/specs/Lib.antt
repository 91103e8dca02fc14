-- What the contracts of this crate say, by its modules.
pub mod NetExpect
pub mod BlkExpect
pub mod SerialSwitch
