-- What the helpers of these rows say: of actors at their queues (Standings, NetTx, Sizes), and of the
-- owner table of two journals (Owners).
pub mod Standings
pub mod NetTx
pub mod Sizes
pub mod Owners
