-- The text of a page (Page).
pub mod Page
