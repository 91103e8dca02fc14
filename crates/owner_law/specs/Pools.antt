-- Pools and their lines as a program counts them, of whatever class: where pools stand and how many
-- buffers they have (Places), with whom these are at the start (Spread), entries that carry the
-- pages that their items name, and actors that hand them on so (Handing), and an actor's part in
-- the lines, and what they ask of a journal and its last moment (Lines). The laws are in
-- src/pools.rt; for proofs above: Casting (a cast that is told by its sheets, whose journal has one
-- owner of each buffer), Plain (entries without pages), Lining (actors that lend nothing), Sizing
-- and Spreading (sizes and hands of pools).
pub mod Places
pub mod Spread
pub mod Handing
pub mod Lines
