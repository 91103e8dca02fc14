-- The proofs on a bus at play: lists (Lists), the actors at a moment (Staging), what they were given
-- (Serving) and recorded (Replying), how many entries are put (Hopping) and ends there are (Ending),
-- that nothing comes out of turn (InTurn), what actors want of their ends by their states (Wanting)
-- and by what passed (Needing, Resting), what holds where nobody is runnable (Quieting) and after
-- all turns (Bounding), and where two buses agree (Agreeing).
pub mod Lists
pub mod Staging
pub mod Serving
pub mod Replying
pub mod Hopping
pub mod Ending
pub mod InTurn
pub mod Wanting
pub mod Quieting
pub mod Bounding
pub mod Needing
pub mod Resting
pub mod Agreeing
pub mod I2cLaw
pub mod BusOwners
pub mod I2cActors
