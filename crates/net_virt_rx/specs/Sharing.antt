-- What a receiving virtualiser has in its hand and has lent, and how it stands for the frames that
-- came, the buffers that it gave and the leases that went to each client and came back.
use Rattle.std.specs.Prelude.{◌≡◌, ◌+◌, ◌-◌, ◌*◌, ◌/◌, ◌<◌, ◌≤◌, ◌^◌, ◌==◌, ◌&&◌, ℕ, zero, suc}
use Rattle.std.specs.Prelude.{Bool, true, false, if◌then◌else◌, not, nat_lt, is_some, is_none, Option}
use Rattle.std.specs.Prelude.{Some, None, List, [], ◌∷◌, ◌++◌, All, length, map, flat_map, take}
use Rattle.std.specs.Prelude.{slice_get, slice_index_or}
use Rattle.std.specs.List.{filter}
use Rattle.std.specs.Option.{option_to_list}
use Rattle.cargo_core.specs.declared.item.Item.{Item}
use Rattle.cargo_core.specs.declared.item.Item.TheVariants as ItemOf
use Rattle.cargo_core.specs.declared.item.Body.{Body}
use Rattle.cargo_core.specs.declared.item.Body.TheVariants as Carried
use Rattle.cargo_core.specs.Lists.{IsPrefix}
use Rattle.cargo_core.specs.Loans.{Loan, receivers_at, page_at}
use Rattle.cargo_core.specs.Pages.{Paged}
use Rattle.frame_core.specs.declared.mac.Mac.{Mac}
use Rattle.wire_core.specs.Bells.{bit}
use Rattle.wire_core.specs.Deeds.{Cargo}
use Rattle.wire_core.specs.Lists.{if_there}
use Rattle.turn_kit.specs.Hands.{bodies_of}
use Rattle.class_expect.specs.NetExpect.Expecting.{is_for_client}
use Rattle.buffer_kit.specs.Entries.{addr_of, frame_of}
use Rattle.buffer_kit.specs.Pools.{given_entry}
use Rattle.buffer_kit.specs.Stocks.{IsStock, IsStart, SameStock, stock_list, stock_hand}
use Rattle.buffer_kit.specs.declared.stock.Stock.{Stock}
use Rattle.net_virt_rx.specs.declared.sharer.Sharer.{Sharer}

-- how many of these are so
abbrev pub how_many : List Bool → ℕ
how_many [] = 0
how_many (b ∷ bs) = bit b + how_many bs

-- how many of these entries name buffer b of a pool whose first buffer begins at base
abbrev pub named : (base size b : ℕ) → List Cargo → ℕ
named base size b [] = 0
named base size b (c ∷ cs) = bit (addr_of c.0 == base + b * size) + named base size b cs

-- the number of the buffer of a body
abbrev pub number_of : Body → ℕ
number_of (Carried.Page page) = page.no
number_of (Carried.Lease lease) = lease.no
number_of Carried.Empty = 0

-- the entry by which a buffer is lent: the offset at which it begins, and leave to read these bytes
-- of it
abbrev pub lease_entry : (size number : ℕ) → List ℕ → Cargo
lease_entry size number bytes = (
  ItemOf.Net (record { addr = number * size; len = length bytes }),
  Carried.Lease (record { no = number; bytes = bytes }),
)

-- the lease of the frame that came in an entry
abbrev pub lease_of : ℕ → Cargo → Cargo
lease_of size c = lease_entry size (number_of c.1) (frame_of c)

-- the leases of those frames that are for the client of an address, in their order
abbrev pub leases_for : ℕ → Mac → List Cargo → List Cargo
leases_for size mac frames = map (lease_of size)
    (filter (λ c. is_for_client mac (frame_of c)) frames)

-- an entry names, with its page, a buffer of the pool: a page of that pool and number, as long as
-- the pool's buffers are
abbrev pub IsBuffer : Stock → Cargo → Type 0
IsBuffer s (item, Carried.Page page) =
    (page.pool ≡ s.pool) × (page.no < s.buffers) × (addr_of item ≡ s.base + page.no * s.size)
    × (length page.bytes ≡ s.size)
IsBuffer s (item, Carried.Lease lease) = ⊥
IsBuffer s (item, Carried.Empty) = ⊥

-- a frame is in turn where it came, with its page, in a buffer that was given and hasn't come back
abbrev pub IsFrameInTurn : Stock → (frames given : List Cargo) → Cargo → Type 0
IsFrameInTurn s frames given c = IsBuffer s c × (named s.base s.size (number_of c.1) frames
    < named s.base s.size (number_of c.1) given)

-- an item names, by its offset, a buffer of which a lease is out to the client of an address
abbrev pub IsDueBack : Stock → Mac → (frames back : List Cargo) → Item → Type 0
IsDueBack s mac frames back item = (b : ℕ) × (b < s.buffers) × (addr_of item ≡ b * s.size)
    × (named 0 s.size b back < named 0 s.size b (leases_for s.size mac frames))

-- a lease that comes back is in turn where its item names such a buffer, whatever lease it has, and
-- also where it has none; but a page is no lease
abbrev pub IsLeaseInTurn : Stock → Mac → (frames back : List Cargo) → Cargo → Type 0
IsLeaseInTurn s mac frames back (item, Carried.Lease lease) = IsDueBack s mac frames back item
IsLeaseInTurn s mac frames back (item, Carried.Page page) = ⊥
IsLeaseInTurn s mac frames back (item, Carried.Empty) = IsDueBack s mac frames back item

-- some client is owed a lease
abbrev pub is_owing : Sharer → Bool
is_owing w = nat_lt 0 (how_many w.owed)

-- how many of the first so many buffers are lent
abbrev pub lent_many : ℕ → List (Option Loan) → ℕ
lent_many zero lent = 0
lent_many (suc n) lent = lent_many n lent + bit (nat_lt 0 (receivers_at lent n))

-- it has no lease and no buffer in its hand
abbrev pub is_idle : Sharer → Bool
is_idle w = is_none w.stock.next && (is_none w.stray && not (is_owing w))

-- a lease of buffer b is due or out to the client at place k
abbrev pub is_out : Sharer → (b k : ℕ) → Bool
is_out w b k = slice_index_or (slice_index_or w.out.items b []) k false

-- the lease that is owed
abbrev pub owed_lease : Sharer → Cargo
owed_lease w = lease_entry w.stock.size w.shared (take w.len (page_at w.lent w.shared).bytes)

-- what is owed to the client at place k
abbrev pub owed_to : Sharer → ℕ → List Cargo
owed_to w k = if_there (slice_index_or w.owed k false) (owed_lease w ∷ [])

-- a frame came in a buffer that is away: it isn't lent, and none is in hand
abbrev pub is_back : Sharer → Cargo → Bool
is_back w (item, Carried.Page page) =
    (page.pool.0 == w.stock.pool.0) && (nat_lt page.no w.stock.buffers
    && ((addr_of item == w.stock.base + page.no * w.stock.size)
    && ((receivers_at w.lent page.no == 0) && (length page.bytes == w.stock.size))))
is_back w (item, Carried.Lease lease) = false
is_back w (item, Carried.Empty) = false

-- an item names, by its offset, a buffer of which a lease is out to the client at place k
abbrev pub is_due_back : Sharer → ℕ → Item → Bool
is_due_back w k item = nat_lt (addr_of item / w.stock.size) w.stock.buffers
    && ((addr_of item == addr_of item / w.stock.size * w.stock.size)
    && is_out w (addr_of item / w.stock.size) k)

-- a lease came back that is out to the client at place k, and no page
abbrev pub is_returned : Sharer → ℕ → Cargo → Bool
is_returned w k (item, Carried.Lease lease) = is_due_back w k item
is_returned w k (item, Carried.Page page) = false
is_returned w k (item, Carried.Empty) = is_due_back w k item

-- the buffer that an item names so
abbrev pub due_back : Sharer → ℕ → Item → Option ℕ
due_back w k item = if is_due_back w k item then Some (addr_of item / w.stock.size) else None

-- the buffer of which such a lease came back
abbrev pub returned : Sharer → ℕ → Cargo → Option ℕ
returned w k (item, Carried.Lease lease) = due_back w k item
returned w k (item, Carried.Page page) = None
returned w k (item, Carried.Empty) = due_back w k item

-- a page is lent under its own number, and to someone
pub record IsLoan (s : Stock) (b : ℕ) (loan : Loan) : Type 0 where
  pub same_pool : loan.0.pool ≡ s.pool
  pub number : loan.0.no ≡ b
  pub sized : length loan.0.bytes ≡ s.size
  pub some : 1 ≤ loan.1

-- a lease is owed of a buffer that is lent, and then nothing else is in hand
pub record Owes (w : Sharer) : Type 0 where
  pub next : w.stock.next ≡ None
  pub stray : w.stray ≡ None
  pub within : w.shared < w.stock.buffers
  pub lent : 1 ≤ receivers_at w.lent w.shared

-- what it keeps fits together: the counts of lent buffers are the numbers of the clients to which a
-- lease of them is out
pub record IsSharer (w : Sharer) : Type 0 where
  pub stock : IsStock w.stock
  pub rest : length w.stock.rest.items < 2 ^ 32 - 1
  pub room : w.stock.base + w.stock.buffers * w.stock.size ≤ 2 ^ 62
  pub some : 0 < w.stock.size
  pub few : length w.macs.items < 2 ^ 32
  pub owed_long : length w.owed ≡ length w.macs.items
  pub lent_long : length w.lent ≡ w.stock.buffers
  pub out_long : length w.out.items ≡ w.stock.buffers
  pub outs_long : (b : ℕ) → b < w.stock.buffers → length (slice_index_or w.out.items b [])
      ≡ length w.macs.items
  pub counts : (b : ℕ) → b < w.stock.buffers → how_many (slice_index_or w.out.items b [])
      ≡ receivers_at w.lent b
  pub loans : (b : ℕ) (loan : Loan) → slice_get w.lent b ≡ Some (Some loan) → IsLoan w.stock b loan
  pub owing : is_owing w ≡ true → Owes w
  pub ready : (x : Cargo) → w.ready ≡ Some x → (is_owing w ≡ true) × (x ≡ owed_lease w)
  pub strayed : is_some w.stray ≡ true → w.stock.next ≡ None

-- the page of a loan, as bodies; none where there is no loan
abbrev pub loan_bodies : Option Loan → List Body
loan_bodies None = []
loan_bodies (Some loan) = Carried.Page loan.0 ∷ []

-- the pages that are lent, as bodies
abbrev pub lent_bodies : List (Option Loan) → List Body
lent_bodies lent = flat_map loan_bodies lent

-- the bodies in its hand that aren't lent: buffers that it has yet to give, and an entry that came
-- out of turn
abbrev pub sharer_hand : Sharer → List Body
sharer_hand w = stock_hand w.stock ++ bodies_of (option_to_list w.stray)

-- all buffers that it has, in its hand or lent
abbrev pub sharer_bodies : Sharer → List Body
sharer_bodies w = sharer_hand w ++ lent_bodies w.lent

-- the clients and the buffers of which it had all at the start stay
pub record SameSharer (old new : Sharer) : Type 0 where
  pub stock : SameStock old.stock new.stock
  pub macs : new.macs ≡ old.macs

-- how it stands for the client at place k, by these frames, of which all but the last are
-- `earlier`, and by the leases that were shared to the client and came back: all are shared but one
-- that is owed, those of the earlier frames among them; and a lease of a buffer is out where it is
-- due and didn't come back
pub record ClientStands (w : Sharer) (k : ℕ) (mac : Mac)
    (frames earlier shared back : List Cargo) : Type 0 where
  pub lends : shared ++ owed_to w k ≡ leases_for w.stock.size mac frames
  pub prompt : IsPrefix (leases_for w.stock.size mac earlier) shared
  pub backs : (b : ℕ) → b < w.stock.buffers → named 0 w.stock.size b back + bit (is_out w b k)
      ≡ named 0 w.stock.size b (leases_for w.stock.size mac frames)

-- how it stands for the frames that came in turn, the buffers that it gave, and the leases of each
-- client by its place: it gave its buffers in rising number, and then those that came back; and
-- each buffer was in its hand or is lent once more than a frame came in it
pub record SharerStands (w : Sharer) (start : List Paged) (frames given : List Cargo)
    (shared back : ℕ → List Cargo) : Type 0 where
  pub earlier : List Cargo
  pub latest : List Cargo
  pub split : frames ≡ earlier ++ latest
  pub few : length latest ≤ 1
  pub within : All (IsBuffer w.stock) frames
  pub clients : (k : ℕ) (mac : Mac) → slice_get w.macs.items k ≡ Some mac
      → ClientStands w k mac frames earlier (shared k) (back k)
  pub later : List Cargo
  pub gives : given ++ stock_list w.stock
      ≡ map (given_entry w.stock.base w.stock.size) start ++ later
  pub given_within : All (IsBuffer w.stock) (given ++ stock_list w.stock)
  pub counts : (b : ℕ) → b < w.stock.buffers
      → named w.stock.base w.stock.size b (given ++ stock_list w.stock)
      + bit (nat_lt 0 (receivers_at w.lent b)) ≡ named w.stock.base w.stock.size b frames + 1

-- the same leases of each client, with these more at place k
abbrev pub with_more : (ℕ → List Cargo) → ℕ → List Cargo → ℕ → List Cargo
with_more lists k more j = lists j ++ if_there (k == j) more

-- a virtualiser at the start: nothing lent or owed, and all buffers in its hand
pub record IsNewSharer (base : ℕ) (macs : List Mac) (pages : List Paged) (w : Sharer) : Type 0 where
  pub macs_are : w.macs.items ≡ macs
  pub is_start : IsStart w.stock pages
  pub base_is : w.stock.base ≡ base
  pub stock : stock_list w.stock ≡ map (given_entry base w.stock.size) pages
  pub none_owed : how_many w.owed ≡ 0
  pub none_lent : (b : ℕ) → receivers_at w.lent b ≡ 0
  pub nothing_lent : lent_bodies w.lent ≡ []
  pub none_ready : w.ready ≡ None
  pub none_stray : w.stray ≡ None
