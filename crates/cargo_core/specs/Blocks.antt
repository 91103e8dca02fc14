-- The units of the block class: what requests count in, what a partition table counts in, and what
-- a buffer holds.
use Rattle.std.specs.Prelude.{ℕ}

-- how many bytes a block has
abbrev pub block_bytes : ℕ
block_bytes = 4096

-- how many bytes a sector has
abbrev pub sector_bytes : ℕ
sector_bytes = 512

-- how many bytes a buffer of the block class has: room for eight blocks
abbrev pub blk_buffer_bytes : ℕ
blk_buffer_bytes = 32768
