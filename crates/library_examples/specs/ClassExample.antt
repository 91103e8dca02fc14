-- What the contracts of the example of a class say: its two kinds of actors (Sources, Joiners),
-- both as one (Members, MemberLaws), and what the class comes to (Pairs).
pub mod Sources
pub mod Joiners
pub mod Members
pub mod MemberLaws
pub mod Pairs
