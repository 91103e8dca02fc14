-- The receiving virtualiser as the actor that lends the network's buffers.
pub mod Virtualiser
