-- What the contracts on the frames that a client must get say.
pub mod Expecting
