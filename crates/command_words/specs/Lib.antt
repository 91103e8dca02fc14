-- What the contracts on the words of the program say.
pub mod Options
pub mod Reading
pub mod Words
pub mod PlayWords
