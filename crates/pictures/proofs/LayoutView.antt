pub mod RowLemmas
pub mod LayoutPicture
