-- How tags are spelled (Spelling), and how a plain reader gets them back (Reading).
pub mod Reading
pub mod Spelling
