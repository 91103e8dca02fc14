-- What the contracts of the receiving virtualiser of the network say.
pub mod Sharing
pub mod Receiving
