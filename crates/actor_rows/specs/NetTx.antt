-- What the helpers of the tests of the sending virtualiser say.
pub mod Standings
