-- The words of a line: how a text is cut, and what its words stand for (Texts, Data), lists with an
-- entry for each client (Lists), and how words are read (Reading).
pub mod Texts
pub mod Data
pub mod Lists
pub mod Reading
pub mod PortsText
