-- The proofs on the example of a class.
pub mod Speech
pub mod Hearing
pub mod Membering
pub mod Beginning
pub mod Pairing
