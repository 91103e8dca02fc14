-- The walk over the elements of a description (Places), and what a plan has of each sort
-- (Elements); Walks has the elements of one sort by their numbers.
pub mod Elements
pub mod Places
pub mod Walks
pub mod ClassTable
