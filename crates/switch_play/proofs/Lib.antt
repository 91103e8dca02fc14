pub mod SwitchSystem
