-- What items carry from owner to owner: buffers, and leave to read a buffer.
use Rattle.std.specs.Prelude.{◌==◌, ◌&&◌, ◌+◌, ◌-◌, ◌*◌, ◌/◌, ℕ, Bool, nat_lt, if◌then◌else◌}
use Rattle.std.specs.Prelude.{Option, Some, None, List, [], ◌∷◌, slice_get, slice_index_or}
use Rattle.std.specs.Prelude.{option_and_then, map, sum_by}
use Rattle.cargo_core.specs.declared.item.Item.{Item}
use Rattle.cargo_core.specs.declared.item.Item.TheVariants as ItemOf
use Rattle.cargo_core.specs.declared.item.Code.{Code}
use Rattle.cargo_core.specs.declared.item.Code.TheVariants as Asked
use Rattle.wire_core.specs.Bells.{bit}
use Rattle.play_core.specs.Moved.{Moved}

-- a buffer: the number of its pool, and its own number there
pub record Buffer : Type 0 where
  pub pool : ℕ
  pub no : ℕ

-- the same buffer
abbrev pub is_same : Buffer → Buffer → Bool
is_same a b = (a.pool == b.pool) && (a.no == b.no)

-- the addresses by which items name the buffers of a pool: device addresses from its base on, or
-- offsets from 0 on
pub record Window : Type 0 where
  pub pool : ℕ
  pub base : ℕ
  pub size : ℕ
  pub buffers : ℕ

-- the number of the buffer at an address
abbrev pub number_at : Window → ℕ → ℕ
number_at w address = (address - w.base) / w.size

-- a buffer of the window begins at an address
abbrev pub begins_at : Window → ℕ → Bool
begins_at w address = nat_lt (number_at w address) w.buffers
    && (w.base + number_at w address * w.size == address)

-- the buffer that begins at an address, in the first window where one does
abbrev pub buffer_at : List Window → ℕ → Option Buffer
buffer_at [] address = None
buffer_at (w ∷ ws) address = if begins_at w address then Some
    (record { pool = w.pool; no = number_at w address }) else buffer_at ws address

-- the address that a request names: only reads and writes name one
abbrev pub request_address : Code → ℕ → Option ℕ
request_address Asked.Read address = Some address
request_address Asked.Write address = Some address
request_address Asked.Flush address = None
request_address Asked.Barrier address = None

-- the address that an item names
abbrev pub address_of : Item → Option ℕ
address_of (ItemOf.Net d) = Some d.addr
address_of (ItemOf.Byte b) = None
address_of (ItemOf.Req r) = request_address r.code r.addr
address_of (ItemOf.Resp r) = None

-- the buffer that an item names
abbrev pub buffer_of : List Window → Item → Option Buffer
buffer_of ws item = option_and_then (buffer_at ws) (address_of item)

-- the buffers that items name, one each
abbrev pub names_in : List Window → List Item → List (Option Buffer)
names_in ws items = map (buffer_of ws) items

-- one where a name is this buffer
abbrev pub is_named : Buffer → Option Buffer → ℕ
is_named b None = 0
is_named b (Some c) = bit (is_same c b)

-- how often a buffer is among these names
abbrev pub times : Buffer → List (Option Buffer) → ℕ
times b names = sum_by (is_named b) names

-- what the items of a queue name: nothing; a buffer each; buffers with frames, each of which is
-- lent where it is taken, to as many receivers as the frame of its place has; leave to read a
-- buffer; such leave on its way back to who lent the buffer; or the buffers of the requests of
-- another queue, each response that of its place
pub data Names : Type 0 where
  NoBuffers : Names
  Buffers : List Window → Names
  Frames : List Window → (receivers : ℕ → ℕ) → Names
  Leases : List Window → Names
  Returns : List Window → Names
  Answers : (requests : ℕ) → List Window → Names

-- of each queue, by its number, what its items name
abbrev pub Naming : Type 0
Naming = ℕ → Names

-- the naming of the queues that a list has in their order
abbrev pub naming_of : List Names → Naming
naming_of list n = slice_index_or list n NoBuffers

-- what an item carries: nothing, a buffer, a buffer with a frame for so many receivers, leave to
-- read a buffer, or leave that comes back
pub data Thing : Type 0 where
  Nothing : Thing
  Whole : Buffer → Thing
  Frame : Buffer → (receivers : ℕ) → Thing
  Lease : Buffer → Thing
  Return : Buffer → Thing

-- the thing of a buffer, where there is one
abbrev pub thing_of : (Buffer → Thing) → Option Buffer → Thing
thing_of make None = Nothing
thing_of make (Some b) = make b

-- the buffer of a response's request, where that was put
abbrev pub requested : List Window → List Item → ℕ → Option Buffer
requested ws requests place = option_and_then (buffer_of ws) (slice_get requests place)

-- what the item at a place among all that went to its queue carries
abbrev pub thing_at : Names → (requests : List Item) → (place : ℕ) → Item → Thing
thing_at NoBuffers requests place item = Nothing
thing_at (Buffers ws) requests place item = thing_of Whole (buffer_of ws item)
thing_at (Frames ws receivers) requests place item =
    thing_of (λ b. Frame b (receivers place)) (buffer_of ws item)
thing_at (Leases ws) requests place item = thing_of Lease (buffer_of ws item)
thing_at (Returns ws) requests place item = thing_of Return (buffer_of ws item)
thing_at (Answers q ws) requests place item = thing_of Whole (requested ws requests place)

-- the requests that a queue's items answer, if they answer any
abbrev pub requests_of : Names → Moved → List Item
requests_of NoBuffers m = []
requests_of (Buffers ws) m = []
requests_of (Frames ws receivers) m = []
requests_of (Leases ws) m = []
requests_of (Returns ws) m = []
requests_of (Answers q ws) m = m.sent q

-- what items carry that stand at these places, from one on
abbrev pub things_from : Names → (requests : List Item) → (place : ℕ) → List Item → List Thing
things_from names requests place [] = []
things_from names requests place (item ∷ items) = thing_at names requests place item
    ∷ things_from names requests (place + 1) items

-- what was put to a queue
abbrev pub things_sent : Naming → Moved → ℕ → List Thing
things_sent naming m n = things_from (naming n) (requests_of (naming n) m) 0 (m.sent n)

-- what was taken there
abbrev pub things_taken : Naming → Moved → ℕ → List Thing
things_taken naming m n = things_from (naming n) (requests_of (naming n) m) 0 (m.taken n)

-- one where a thing is this buffer itself
abbrev pub as_buffer : Buffer → Thing → ℕ
as_buffer b Nothing = 0
as_buffer b (Whole c) = bit (is_same c b)
as_buffer b (Frame c receivers) = bit (is_same c b)
as_buffer b (Lease c) = 0
as_buffer b (Return c) = 0

-- one where it is leave to read this buffer
abbrev pub as_lease : Buffer → Thing → ℕ
as_lease b Nothing = 0
as_lease b (Whole c) = 0
as_lease b (Frame c receivers) = 0
as_lease b (Lease c) = bit (is_same c b)
as_lease b (Return c) = bit (is_same c b)

-- to how many receivers its take lends this buffer
abbrev pub lends : Buffer → Thing → ℕ
lends b Nothing = 0
lends b (Whole c) = 0
lends b (Frame c receivers) = if is_same c b then receivers else 0
lends b (Lease c) = 0
lends b (Return c) = 0

-- one where its take is the return of a lease of this buffer
abbrev pub gives_back : Buffer → Thing → ℕ
gives_back b Nothing = 0
gives_back b (Whole c) = 0
gives_back b (Frame c receivers) = 0
gives_back b (Lease c) = 0
gives_back b (Return c) = bit (is_same c b)

-- how many leases of this buffer its take brings into the taker's hand
abbrev pub brings_leases : Buffer → Thing → ℕ
brings_leases b Nothing = 0
brings_leases b (Whole c) = 0
brings_leases b (Frame c receivers) = if is_same c b then receivers else 0
brings_leases b (Lease c) = bit (is_same c b)
brings_leases b (Return c) = 0
