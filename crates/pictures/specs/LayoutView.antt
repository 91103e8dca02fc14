-- What is drawn of a layout (Drawn).
pub mod Drawn
pub mod LayoutPicture
