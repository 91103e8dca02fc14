-- What the sending virtualiser keeps of one client, and how that stands for what passed.
use Rattle.std.specs.Prelude.{◌≡◌, ◌+◌, ◌-◌, ◌*◌, ◌/◌, ◌<◌, ◌≤◌, ◌^◌, ◌==◌, ◌&&◌, ◌||◌, ℕ, Bool}
use Rattle.std.specs.Prelude.{false, not, nat_le, is_some, is_none, Option, Some, None, List, []}
use Rattle.std.specs.Prelude.{◌∷◌, ◌++◌, All, length, map, slice_index_or}
use Rattle.std.specs.List.{filter}
use Rattle.std.specs.Option.{option_to_list}
use Rattle.cargo_core.specs.declared.item.PoolId.{PoolId}
use Rattle.cargo_core.specs.declared.item.Body.{Body}
use Rattle.cargo_core.specs.declared.item.Body.TheVariants as Carried
use Rattle.cargo_core.specs.declared.item.QueueKind.TheVariants as Kind
use Rattle.cargo_core.specs.declared.ranges.Range.{Range}
use Rattle.cargo_core.specs.Items.{kind_of}
use Rattle.cargo_core.specs.Lists.{Merge}
use Rattle.wire_core.specs.Bells.{bit}
use Rattle.wire_core.specs.Deeds.{Cargo}
use Rattle.buffer_kit.specs.Entries.{addr_of}
use Rattle.net_virt_tx.specs.declared.client.Client.{Client}
use Rattle.net_virt_tx.specs.declared.descriptors.Sender.{Sender}
use Rattle.net_virt_tx.specs.Descriptors.{to_client}
use Rattle.net_virt_tx.specs.Queued.{returns_list, IsReady}
use Rattle.net_virt_tx.specs.Serving.{is_good_of, bad_ones}
pub use Rattle.buffer_kit.specs.Clients.{capped, carried}

-- how many of these are so
abbrev pub how_many : List Bool → ℕ
how_many [] = 0
how_many (b ∷ bs) = bit b + how_many bs

-- the mark of a number
abbrev pub is_marked : List Bool → ℕ → Bool
is_marked marks n = slice_index_or marks n false

-- how many of these entries are at an address
abbrev pub at_address : ℕ → List Cargo → ℕ
at_address a [] = 0
at_address a (c ∷ cs) = bit (addr_of c.0 == a) + at_address a cs

-- the number of the buffer of a body
abbrev pub number_of : Body → ℕ
number_of (Carried.Page page) = page.no
number_of (Carried.Lease lease) = lease.no
number_of Carried.Empty = 0

-- the device addresses of a client's buffers
abbrev pub range_of : Sender → Range
range_of s = record { base = s.base; size = s.buffers * s.size }

-- an entry of the driver's queues is at a buffer of the client
abbrev pub IsOf : Sender → Cargo → Type 0
IsOf s x = (b : ℕ) × (b < s.buffers) × (addr_of x.0 ≡ s.base + b * s.size)

-- nothing that came from the client is still to be put
abbrev pub is_idle : Client → Bool
is_idle c = is_none c.leaving && is_none c.bad

-- it has an entry to the driver
abbrev pub is_leaving : Client → Bool
is_leaving c = is_some c.leaving

-- the first of two that is there
abbrev pub first_of : Option Cargo → Option Cargo → Option Cargo
first_of None next = next
first_of (Some x) next = Some x

-- what goes to the client next: its bad descriptor before the buffers that came back
abbrev pub load_of : Client → Option Cargo
load_of c = first_of c.bad c.returns.next

-- an entry is to go to the client
abbrev pub is_loaded : Client → Bool
is_loaded c = is_some (load_of c)

-- a descriptor is in turn where it is bad, or its buffer isn't here or at the driver
abbrev pub comes_in_turn : Client → Cargo → Bool
comes_in_turn c x = not (is_good_of c.sender x) || not (is_marked c.inside (number_of x.1))

-- the number of the buffer at a device address
abbrev pub buffer_at : Client → ℕ → ℕ
buffer_at c a = (a - c.sender.base) / c.sender.size

-- the client's buffer that begins at a device address is at the driver
abbrev pub is_away : Client → ℕ → Bool
is_away c a = nat_le c.sender.base a && ((c.sender.base + buffer_at c a * c.sender.size == a)
    && is_marked c.away (buffer_at c a))

-- all entries that it has
abbrev pub client_cargo : Client → List Cargo
client_cargo c = option_to_list c.leaving ++ (option_to_list c.bad ++ returns_list c.returns)

-- an entry goes to the client at one of its buffers
abbrev pub IsReturn : (buffers size : ℕ) → Cargo → Type 0
IsReturn buffers size x =
    (kind_of x.0 ≡ Kind.Net) × ((b : ℕ) × (b < buffers) × (addr_of x.0 ≡ b * size))

-- what it keeps fits together: a buffer is inside where it is in the entry that leaves, at the
-- driver, or in one that came back
pub record IsClient (c : Client) : Type 0 where
  pub sized : 1 ≤ c.sender.size
  pub room : c.sender.base + c.sender.buffers * c.sender.size ≤ 2 ^ 62
  pub inside_long : length c.inside ≡ c.sender.buffers
  pub away_long : length c.away ≡ c.sender.buffers
  pub leaves : (x : Cargo) → c.leaving ≡ Some x → (kind_of x.0 ≡ Kind.Net)
      × (c.number < c.sender.buffers) × (addr_of x.0 ≡ c.sender.base + c.number * c.sender.size)
  pub bad_kind : (x : Cargo) → c.bad ≡ Some x → kind_of x.0 ≡ Kind.Net
  pub backs : All (IsReturn c.sender.buffers c.sender.size) (returns_list c.returns)
  pub places : c.sender.buffers ≤ c.returns.later.places
  pub ready : IsReady c.returns
  pub marks : (b : ℕ) → b < c.sender.buffers → bit (is_marked c.inside b)
      ≡ at_address (c.sender.base + b * c.sender.size) (option_to_list c.leaving)
      + (bit (is_marked c.away b) + at_address (b * c.sender.size) (returns_list c.returns))
  pub counts : how_many c.inside ≡ length (option_to_list c.leaving)
      + (how_many c.away + length (returns_list c.returns))

-- how it stands for what came from the client, what was sent to the driver for it, what returned
-- from there and what went back to it, each with the client's own offsets: its good descriptors
-- were sent, but for one that leaves; what went back is a merge of its bad ones, but for one that
-- waits, and of what returned, but for what waits; and a buffer was sent once more than it returned
-- where it is away
pub record ClientStands (c : Client) (came sent returned back : List Cargo) : Type 0 where
  pub sends : sent ++ map (to_client c.sender.base) (option_to_list c.leaving)
      ≡ filter (is_good_of c.sender) came
  pub bads : List Cargo
  pub bads_are : bads ++ option_to_list c.bad ≡ bad_ones c.sender came
  pub rets : List Cargo
  pub rets_are : rets ++ returns_list c.returns ≡ returned
  pub merged : Merge (bads ∷ rets ∷ []) back
  pub counts : (b : ℕ) → b < c.sender.buffers → at_address (b * c.sender.size) sent
      ≡ at_address (b * c.sender.size) returned + bit (is_marked c.away b)
  pub bad_many : c.bad_many ≡ capped (length (bad_ones c.sender came))

-- so much more came from the client, was sent for it, returned and went back to it; what is sent
-- and returns has device addresses
pub record Moved (old new : Client) (came sent returned back : List Cargo) : Type 0 where
  pub work : IsClient new
  pub sender : new.sender ≡ old.sender
  pub stands : (cs ss rs bs : List Cargo) → ClientStands old cs ss rs bs → ClientStands new
      (cs ++ came) (ss ++ map (to_client old.sender.base) sent)
      (rs ++ map (to_client old.sender.base) returned) (bs ++ back)
  pub held : (pool : PoolId) → carried pool (client_cargo old)
      + (carried pool came + carried pool returned)
      ≡ carried pool (client_cargo new) + (carried pool sent + carried pool back)

-- a client at the start
pub record IsFresh (c : Client) : Type 0 where
  pub work : IsClient c
  pub none_leaving : c.leaving ≡ None
  pub none_bad : c.bad ≡ None
  pub none_back : returns_list c.returns ≡ []
  pub none_away : (b : ℕ) → is_marked c.away b ≡ false
  pub none_many : c.bad_many ≡ 0
