-- What the contracts of this crate say, by its modules.
pub mod LayoutView
pub mod PlayPicture
