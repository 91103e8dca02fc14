-- The proofs of the laws of the block class.
pub mod Beside
pub mod Own
pub mod Recording
pub mod Scripts
pub mod Parts
pub mod RecordsLemmas
pub mod SheetsLemmas
pub mod VirtScene
pub mod HopsLemmas
pub mod RestsLemmas
pub mod OwnersLemmas
