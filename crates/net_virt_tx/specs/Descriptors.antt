-- The descriptors by which a client sends: which are good, and the addresses of their buffers on
-- either side.
use Rattle.std.specs.Prelude.{◌+◌, ◌-◌, ◌*◌, ◌==◌, ◌&&◌, ℕ, Bool, false, nat_le, nat_lt}
use Rattle.cargo_core.specs.declared.item.PoolId.{PoolId}
use Rattle.cargo_core.specs.declared.item.Item.{Item}
use Rattle.cargo_core.specs.declared.item.Item.TheVariants as ItemOf
use Rattle.cargo_core.specs.declared.item.Body.TheVariants as Carried
use Rattle.wire_core.specs.Deeds.{Cargo}
use Rattle.buffer_kit.specs.Entries.{addr_of, len_of}

-- a descriptor is good where its offset is that of one of the client's buffers, its length one of a
-- frame, and its body the page of that offset; any other is bad: its offset is no multiple of the
-- buffer size, it lies past the last buffer, its length is outside 14 to the longest frame, or its
-- body isn't the page of that offset
abbrev pub is_good : PoolId → (buffers size most : ℕ) → Cargo → Bool
is_good pool buffers size most (item, Carried.Page page) =
    (page.pool.0 == pool.0) && (nat_lt page.no buffers && ((addr_of item == page.no * size)
    && (nat_le 14 (len_of item) && nat_le (len_of item) most)))
is_good pool buffers size most (item, Carried.Lease lease) = false
is_good pool buffers size most (item, Carried.Empty) = false

-- the same item with another address
abbrev pub with_addr : ℕ → Item → Item
with_addr n (ItemOf.Net d) = ItemOf.Net (record { addr = n; len = d.len })
with_addr n (ItemOf.Byte b) = ItemOf.Byte b
with_addr n (ItemOf.Req r) = ItemOf.Req r
with_addr n (ItemOf.Resp r) = ItemOf.Resp r

-- an entry with the device address of its buffer, where the client's range begins at base
abbrev pub to_device : ℕ → Cargo → Cargo
to_device base c = (with_addr (base + addr_of c.0) c.0, c.1)

-- an entry with the offset of its buffer in the client's range
abbrev pub to_client : ℕ → Cargo → Cargo
to_client base c = (with_addr (addr_of c.0 - base) c.0, c.1)
