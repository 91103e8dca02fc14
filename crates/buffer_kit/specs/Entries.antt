-- What an entry of a network queue says: its frame, and how a buffer is filled with one.
use Rattle.std.specs.Prelude.{ℕ, nat_le, if◌then◌else◌, List, [], ◌∷◌, length, take}
use Rattle.cargo_core.specs.declared.item.Item.{Item}
use Rattle.cargo_core.specs.declared.item.Item.TheVariants as ItemOf
use Rattle.cargo_core.specs.declared.item.Body.{Body}
use Rattle.cargo_core.specs.declared.item.Body.TheVariants as Carried
use Rattle.cargo_core.specs.Lists.{replaced}
use Rattle.wire_core.specs.Deeds.{Cargo}

-- the length that an item tells
abbrev pub len_of : Item → ℕ
len_of (ItemOf.Net d) = d.len
len_of (ItemOf.Byte b) = 0
len_of (ItemOf.Req r) = 0
len_of (ItemOf.Resp r) = 0

-- the address at which its buffer begins
abbrev pub addr_of : Item → ℕ
addr_of (ItemOf.Net d) = d.addr
addr_of (ItemOf.Byte b) = 0
addr_of (ItemOf.Req r) = 0
addr_of (ItemOf.Resp r) = 0

-- the first bytes of a page, as many as these and the page has; none where there is no page
abbrev pub first_bytes : ℕ → Body → List ℕ
first_bytes n (Carried.Page page) = take n page.bytes
first_bytes n Carried.Empty = []
first_bytes n (Carried.Lease lease) = []

-- the frame of an entry: the first bytes of its page, as many as its length says and the page has
abbrev pub frame_of : Cargo → List ℕ
frame_of c = first_bytes (len_of c.0) c.1

-- the same item with another length
abbrev pub with_len : ℕ → Item → Item
with_len n (ItemOf.Net d) = ItemOf.Net (record { addr = d.addr; len = n })
with_len n (ItemOf.Byte b) = ItemOf.Byte b
with_len n (ItemOf.Req r) = ItemOf.Req r
with_len n (ItemOf.Resp r) = ItemOf.Resp r

-- a page that is long enough with these bytes at its front, and any other body as it is
abbrev pub filled_body : List ℕ → Body → Body
filled_body bytes (Carried.Page page) = if nat_le (length bytes)
    (length page.bytes) then Carried.Page
    (record {
      pool = page.pool;
      no = page.no;
      bytes = replaced page.bytes 0 bytes;
    }) else Carried.Page page
filled_body bytes Carried.Empty = Carried.Empty
filled_body bytes (Carried.Lease lease) = Carried.Lease lease

-- an entry that is filled with these bytes: it has their length, and they stand in its page where
-- the page is long enough
abbrev pub filled : List ℕ → Cargo → Cargo
filled bytes c = (with_len (length bytes) c.0, filled_body bytes c.1)

-- entries that are filled one by one, as far as both go
abbrev pub all_filled : List (List ℕ) → List Cargo → List Cargo
all_filled [] cs = []
all_filled (bytes ∷ rest) [] = []
all_filled (bytes ∷ rest) (c ∷ cs) = filled bytes c ∷ all_filled rest cs
