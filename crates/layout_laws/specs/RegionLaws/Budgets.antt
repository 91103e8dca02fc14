-- What the laws on the step budget say.
pub mod Ends
