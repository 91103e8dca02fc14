-- What actors did at their ends over rings (Tales), one order of all their calls (Orders), how
-- actors begin apart (ActorParts), and what rings that ended leave (Ended).
pub mod Tales
pub mod Orders
pub mod ActorParts
pub mod Ended
