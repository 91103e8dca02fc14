-- What the actors of the bus mean to who plays them (Members), the laws of that (MemberLaws), the
-- queues between them (Queues), which actors a bus has (Casting), and these in their start state
-- (Starting).
pub mod Members
pub mod MemberLaws
pub mod Queues
pub mod Casting
pub mod Starting
