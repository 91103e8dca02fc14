-- What the contracts of a switch say: its ends (Ends), and the order of its takes, its row and its
-- turns (Switching).
pub mod Ends
pub mod Switching
pub mod SwitchDesk
