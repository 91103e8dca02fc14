-- What the contracts of rings and their ends say.
pub mod Rule
pub mod Known
pub mod Steps
pub mod Shown
pub mod Left
