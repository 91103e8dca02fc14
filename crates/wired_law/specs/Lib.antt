-- How the actors of the network and the block class in a cast are wired (Wiring), so that nothing
-- comes out of turn at any actor, and what it has of buffers (Buffers).
pub mod Buffers
pub mod Wiring
pub mod PageLaw
