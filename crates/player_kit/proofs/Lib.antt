-- The proofs on the kept list (Rising, Places, Listing), and on what a call adds to what a journal
-- shows (Showing).
pub mod Rising
pub mod Places
pub mod Listing
pub mod Showing
pub mod Calls
