-- The block class without a system: its kinds of actor (Parts), what each may have put, of items
-- alone (Rows), their table (Table: `blk_sheet`), which part each actor plays (Playing), and their
-- queues by the number of the first (Numbers).
pub mod Parts
pub mod Rows
pub mod Table
pub mod Playing
pub mod Numbers
