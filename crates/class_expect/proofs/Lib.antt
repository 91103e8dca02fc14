pub mod NetExpect
pub mod BlkExpect
pub mod SerialSwitch
