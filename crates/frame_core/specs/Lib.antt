-- What the contracts on addresses and on the headers of frames say.
pub mod Frames
pub mod Macs
