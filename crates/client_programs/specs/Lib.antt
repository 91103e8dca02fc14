-- What the contracts of the programs of network clients (Net), block clients (Blk) and hostile
-- clients (Rogue) say.
pub mod Net
pub mod Blk
pub mod Rogue
