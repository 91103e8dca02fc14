-- The pages that carry blocks: a page carries some blocks in its first bytes.
use Rattle.std.specs.Prelude.{ℕ, ◌*◌, nat_le, Bool, false, if◌then◌else◌, List, [], length, take}
use Rattle.cargo_core.specs.Blocks.{block_bytes}
use Rattle.cargo_core.specs.declared.item.Body.{Body}
use Rattle.cargo_core.specs.declared.item.Body.TheVariants as Carried
use Rattle.cargo_core.specs.Lists.{replaced}

-- a body is a page that has room for so many blocks
abbrev pub has_room : ℕ → Body → Bool
has_room count (Carried.Page page) = nat_le (count * block_bytes) (length page.bytes)
has_room count Carried.Empty = false
has_room count (Carried.Lease lease) = false

-- the blocks that a body carries: the first bytes of its page; none where it has no page
abbrev pub carried_blocks : ℕ → Body → List ℕ
carried_blocks count (Carried.Page page) = take (count * block_bytes) page.bytes
carried_blocks count Carried.Empty = []
carried_blocks count (Carried.Lease lease) = []

-- a page that is long enough with these bytes at its front, and any other body as it is
abbrev pub filled_body : List ℕ → Body → Body
filled_body bytes (Carried.Page page) = if nat_le (length bytes)
    (length page.bytes) then Carried.Page
    (record {
      pool = page.pool;
      no = page.no;
      bytes = replaced page.bytes 0 bytes;
    }) else Carried.Page page
filled_body bytes Carried.Empty = Carried.Empty
filled_body bytes (Carried.Lease lease) = Carried.Lease lease
