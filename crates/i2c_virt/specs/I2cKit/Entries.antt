-- The entries of the bus: which buffer an item names, and which entries are in turn.
use Rattle.std.specs.Prelude.{◌+◌, ◌*◌, ◌==◌, ◌&&◌, ℕ, nat_lt, Bool, false, is_some}
use Rattle.cargo_core.specs.declared.item.Body.TheVariants as Bodies
use Rattle.cargo_core.specs.declared.item.Item.{Item}
use Rattle.cargo_core.specs.declared.item.Item.TheVariants as ItemOf
use Rattle.cargo_core.specs.declared.item.PoolId.{PoolId}
use Rattle.cargo_core.specs.Pages.{Paged}
use Rattle.wire_core.specs.Deeds.{Cargo}
use Rattle.i2c_virt.specs.declared.i2c_kit.page.TheConstants.{BUFFER_BYTES, BUFFERS}
use Rattle.i2c_virt.specs.I2cKit.Pages.{head_in, status_in}

-- where a buffer of a client begins on the client's own queues
abbrev pub own_place : (number : ℕ) → ℕ
own_place number = BUFFER_BYTES * number

-- where it begins on the other queues; a client's pool has the number of the client
abbrev pub shared_place : PoolId → (number : ℕ) → ℕ
shared_place pool number = BUFFERS * BUFFER_BYTES * pool.0 + own_place number

-- the item that names the buffer at a place
abbrev pub item_at : (place : ℕ) → Item
item_at place = ItemOf.Net (record { addr = place; len = BUFFER_BYTES })

-- whether an item names the buffer at a place
abbrev pub names : Item → (place : ℕ) → Bool
names (ItemOf.Net d) place = d.addr == place && d.len == BUFFER_BYTES
names (ItemOf.Byte b) place = false
names (ItemOf.Req r) place = false
names (ItemOf.Resp r) place = false

-- whether a page is one of a client's buffers
abbrev pub is_buffer : Paged → Bool
is_buffer p = nat_lt p.no BUFFERS

-- whether an entry is a request in turn on a client's own queue: it carries the buffer of the
-- client's pool that its item names, and the page spells a request
unfoldable pub is_own_request : (pool : PoolId) → Cargo → Bool
is_own_request pool (item, Bodies.Page p) =
    p.pool.0 == pool.0 && is_buffer p && names item (own_place p.no) && is_some (head_in p.bytes)
is_own_request pool (item, Bodies.Empty) = false
is_own_request pool (item, Bodies.Lease l) = false

-- whether it is one on the queue of the bus
unfoldable pub is_bus_request : Cargo → Bool
is_bus_request (item, Bodies.Page p) =
    is_buffer p && names item (shared_place p.pool p.no) && is_some (head_in p.bytes)
is_bus_request (item, Bodies.Empty) = false
is_bus_request (item, Bodies.Lease l) = false

-- whether an entry is a reply in turn to the request in this buffer, which stands at this place of
-- the queue: it carries that buffer, names it, and the page spells a reply
unfoldable pub is_reply_in : (pool : PoolId) → (number place : ℕ) → Cargo → Bool
is_reply_in pool number place (item, Bodies.Page p) =
    p.pool.0 == pool.0 && p.no == number && names item place && is_some (status_in p.bytes)
is_reply_in pool number place (item, Bodies.Empty) = false
is_reply_in pool number place (item, Bodies.Lease l) = false
