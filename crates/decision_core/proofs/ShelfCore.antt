pub mod Appending
pub mod ReadLemmas
pub mod ShelfLemmas
