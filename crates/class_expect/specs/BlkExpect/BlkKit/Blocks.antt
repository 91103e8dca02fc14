-- The blocks of a disk: runs of so many bytes of its image, counted from 0.
use Rattle.std.specs.Prelude.{ℕ, ◌+◌, ◌*◌, nat_le, Bool, List, length, take, drop}
use Rattle.cargo_core.specs.Blocks.{block_bytes}
use Rattle.cargo_core.specs.declared.item.Code.{Code}
use Rattle.cargo_core.specs.declared.item.Code.TheVariants as Asked
use Rattle.cargo_core.specs.Lists.{replaced}

-- some blocks, from one on, are all in an image
abbrev pub has_blocks : List ℕ → ℕ → ℕ → Bool
has_blocks image block count = nat_le ((block + count) * block_bytes) (length image)

-- the bytes of some blocks of an image, from one on
abbrev pub blocks_at : List ℕ → ℕ → ℕ → List ℕ
blocks_at image block count = take (count * block_bytes) (drop (block * block_bytes) image)

-- the image with other bytes from a block on
abbrev pub with_blocks : List ℕ → ℕ → List ℕ → List ℕ
with_blocks image block bytes = replaced image (block * block_bytes) bytes

-- how many blocks a request moves: a read or a write those that it names, a flush or a barrier none
abbrev pub moved_blocks : Code → ℕ → ℕ
moved_blocks Asked.Read count = count
moved_blocks Asked.Write count = count
moved_blocks Asked.Flush count = 0
moved_blocks Asked.Barrier count = 0
