-- What the contracts of the law of the network's wire say.
pub mod Sending
pub mod Telling
