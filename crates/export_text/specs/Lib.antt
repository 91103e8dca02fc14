-- How numbers are spelled (Numbers), which tags a plan has (System), how a reader takes them
-- (Parts), and which names of variables can be exported (Symbols).
pub mod Numbers
pub mod Parts
pub mod Symbols
pub mod System
pub mod ConfigText
