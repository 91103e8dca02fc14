-- The network's receive half without a system: its kinds of actor (Parts), what each may have put,
-- of items alone (Rows), their table (Table: `net_sheet`), what their items name (Naming), which
-- part each actor plays (Playing), their queues by the number of the first (Numbers), and their way
-- round, of entries with bodies (Turning).
pub mod Parts
pub mod Rows
pub mod Table
pub mod Playing
pub mod Naming
pub mod Turning
pub mod Numbers
