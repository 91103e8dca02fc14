-- What the actors of a switch's system mean to the player (Members), that these meanings are
-- lawful (MemberLaws), the queues between them (Queues), of what the actors are made (Casting), and
-- how they start (Starting).
pub mod Members
pub mod MemberLaws
pub mod Queues
pub mod Casting
pub mod Starting
