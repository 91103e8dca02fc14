-- How a text is read into a plan: its elements and their places (Tree, Elements), the table of keys
-- (Keys), what fields hold (Fields), the plan that is spelled (Spelled), and how many elements
-- there may be (Counts); and how a text was read before there was a second version (First).
pub mod Counts
pub mod Elements
pub mod Fields
pub mod First
pub mod Keys
pub mod Spelled
pub mod Tree
