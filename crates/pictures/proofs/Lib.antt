pub mod LayoutView
pub mod PlayPicture
