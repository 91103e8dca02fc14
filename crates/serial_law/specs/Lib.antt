-- The serial class without a system: its kinds of actor (Parts), their table (Table:
-- `serial_sheet`), and what the class brings (Serial): at any moment `ArrivesInPart`, where all its
-- actors rest `ArrivesWhole`, of history and journal alone; Holding: both where nothing is dropped;
-- Dropped: what the receiver's calls tell of what it dropped. Its moves (Hops) and its ends among
-- the pools (Pools) stand beside them. A system gives `IsSerial There hostile rows class`, with
-- `There p` the row of p's sheet, or that p plays it; the laws are in src/; for proofs above:
-- Arrivals.as_there carries one There into another.
pub mod Parts
pub mod Bytes
pub mod Table
pub mod Serial
pub mod Beside
pub mod Holding
pub mod Dropped
pub mod Hops
pub mod Pools
