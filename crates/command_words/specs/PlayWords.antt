-- The words of a play that is drawn (Words), and what reads them says of a part of them (Reading).
pub mod Words
pub mod Reading
