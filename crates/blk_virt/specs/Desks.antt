-- What the block virtualiser keeps of all its clients, and how that stands for what passed.
use Rattle.std.specs.Prelude.{◌≡◌, ◌⊎◌, ◌+◌, ◌≤◌, ◌==◌, ℕ, Bool, true, false, Option, Some, None}
use Rattle.std.specs.Prelude.{List, [], ◌∷◌, ◌++◌, length, map, flat_map, slice_get, slice_set}
use Rattle.std.specs.List.{list_any, sum_by}
use Rattle.std.specs.Option.{option_map}
use Rattle.cargo_core.specs.Ranges.{AreRanges}
use Rattle.wire_core.specs.Bells.{bit}
use Rattle.wire_core.specs.Deeds.{Cargo}
use Rattle.blk_mbr.specs.declared.part.Part.{Part}
use Rattle.blk_virt.specs.declared.client.Client.{Client}
use Rattle.blk_virt.specs.declared.client.Current.{Current}
use Rattle.blk_virt.specs.declared.desk.Desk.{Desk}
use Rattle.blk_virt.specs.declared.requests.Holder.{Holder}
use Rattle.blk_virt.specs.Requests.{page_named, numbered, number_of, is_at, range_of}
use Rattle.blk_virt.specs.Serving.{own_of, own_back}
use Rattle.blk_virt.specs.Clients.{IsClient, ClientStands, Moved, brought, capped, client_cargo}
use Rattle.blk_virt.specs.Clients.{is_away, is_held, is_idle, is_leaving}
use Rattle.buffer_kit.specs.Clients.{entry_in}
pub use Rattle.buffer_kit.specs.Clients.{is_so, with_more}

-- the client's next request may be taken
abbrev pub needs_at : Desk → ℕ → Bool
needs_at w k = is_so is_idle (slice_get w.clients.items k)

-- an answer is to go to the client
abbrev pub loaded_at : Desk → ℕ → Bool
loaded_at w k = is_so is_held (slice_get w.clients.items k)

-- a request is to go to the driver
abbrev pub owes : Desk → Bool
owes w = list_any is_leaving w.clients.items

-- what a client is given next
abbrev pub held_in : Option Client → Option Cargo
held_in o = entry_in (λ (c : Client). c.held) o

-- the same of the client at a place
abbrev pub held_at : Desk → ℕ → Option Cargo
held_at w k = held_in (slice_get w.clients.items k)

-- what a client has for the driver
abbrev pub leaving_in : Option Client → Option Cargo
leaving_in o = entry_in (λ (c : Client). c.leaving) o

-- the same of the client at a place
abbrev pub leaving_at : Desk → ℕ → Option Cargo
leaving_at w k = leaving_in (slice_get w.clients.items k)

-- the same with this number
abbrev pub leaving_with : ℕ → Desk → ℕ → Option Cargo
leaving_with n w k = option_map (numbered n) (leaving_at w k)

-- a body is the buffer of the request of a client, who is there
abbrev pub brought_in : Option Client → Cargo → Bool
brought_in None y = false
brought_in (Some c) y = brought c.current y.1

-- the same of the client that is first in a line
abbrev pub due_for : List Client → List ℕ → Cargo → Bool
due_for cs [] y = false
due_for cs (k ∷ ks) y = brought_in (slice_get cs k) y

-- a response is in turn: some request is at the driver, and it brings the buffer of the first
abbrev pub is_due : Desk → Cargo → Bool
is_due w y = due_for w.clients.items w.line.shown y

-- what is known of the clients from the start, in their order
abbrev pub holders : Desk → List Holder
holders w = map (λ (c : Client). c.holder) w.clients.items

-- the entries in its hand
abbrev pub desk_cargo : Desk → List Cargo
desk_cargo w = flat_map client_cargo w.clients.items

-- how often a place is in the line
abbrev pub times : ℕ → List ℕ → ℕ
times k [] = 0
times k (j ∷ js) = bit (j == k) + times k js

-- how many clients have a request at the driver
abbrev pub away_many : List Client → ℕ
away_many [] = 0
away_many (c ∷ cs) = bit (is_away c) + away_many cs

-- a client has a request at the driver
abbrev pub away_at : Option Client → ℕ
away_at None = 0
away_at (Some c) = bit (is_away c)

-- what it keeps of its clients fits together: those whose request is at the driver stand in the
-- line, each once; and no two clients' ranges meet
pub record IsDesk (w : Desk) : Type 0 where
  pub each : (k : ℕ) (c : Client) → slice_get w.clients.items k ≡ Some c → IsClient c
  pub apart : AreRanges (map range_of (holders w))
  pub line : (k : ℕ) → times k w.line.shown ≡ away_at (slice_get w.clients.items k)
  pub long : length w.line.shown ≡ away_many w.clients.items
  pub room : length w.clients.items ≤ w.line.room

-- the line where a client's request goes to the driver, is answered there, or does neither
abbrev pub LineMoves : ℕ → Client → Client → List ℕ → List ℕ → Type 0
LineMoves k was now old new = ((new ≡ old) × (is_away now ≡ is_away was))
    ⊎ (((new ≡ old ++ k ∷ []) × (is_away was ≡ false) × (is_away now ≡ true))
    ⊎ ((old ≡ k ∷ new) × (is_away was ≡ true) × (is_away now ≡ false)))

-- the client at place k is served so much further, and all else stays
pub record OneMoved (old new : Desk) (k : ℕ) (part : Option Part)
    (came sent back gave : List Cargo) : Type 0 where
  pub was : Client
  pub now : Client
  pub there : slice_get old.clients.items k ≡ Some was
  pub clients : new.clients.items ≡ slice_set old.clients.items k now
  pub moved : Moved part was now came sent back gave
  pub line : LineMoves k was now old.line.shown new.line.shown
  pub room : new.line.room ≡ old.line.room

-- what is needed and to go stays
pub record IsStill (old new : Desk) : Type 0 where
  pub needs : (k : ℕ) → needs_at new k ≡ needs_at old k
  pub loads : (k : ℕ) → loaded_at new k ≡ loaded_at old k
  pub owed : owes new ≡ owes old

-- an entry at the driver is the request of this client
pub record IsRequestOf (c : Client) (x : Cargo) : Type 0 where
  pub at : is_at c.holder x ≡ true
  pub page : (current : Current) → c.current ≡ Some current → page_named x.1 ≡ current.page

-- these entries at the driver are the requests of the clients in the line, in their order
abbrev pub AreOf : List Client → List ℕ → List Cargo → Type 0
AreOf cs [] [] = Unit {0}
AreOf cs [] (x ∷ xs) = ⊥
AreOf cs (k ∷ ks) [] = ⊥
AreOf cs (k ∷ ks) (x ∷ xs) =
    ((c : Client) × (slice_get cs k ≡ Some c) × IsRequestOf c x) × AreOf cs ks xs

-- what went to the driver is nothing, or the request of the client at place k with this number, who
-- then stands last in the line
abbrev pub SentAs : Desk → Desk → ℕ → ℕ → List Cargo → Type 0
SentAs old new k n sent = ((sent ≡ []) × (new.line.shown ≡ old.line.shown))
    ⊎ ((x : Cargo) × (c : Client) × (sent ≡ x ∷ []) × (number_of x ≡ n)
    × (slice_get new.clients.items k ≡ Some c) × IsRequestOf c x
    × (new.line.shown ≡ old.line.shown ++ k ∷ []))

-- an entry is at a buffer of one of these
abbrev pub IsSomeones : List Holder → Cargo → Type 0
IsSomeones hs x = (k : ℕ) × (h : Holder) × (slice_get hs k ≡ Some h) × (is_at h x ≡ true)

-- how it stands for what came from each client by its place, what it sent to the driver, what was
-- answered there and what it gave to each client, by the partitions of the entries: it serves each
-- client, and those at the driver that aren't answered are the requests of the line
pub record DeskStands (w : Desk) (parts : ℕ → Option Part) (came : ℕ → List Cargo)
    (sent back : List Cargo) (gave : ℕ → List Cargo) : Type 0 where
  pub clients : (k : ℕ) (c : Client) → slice_get w.clients.items k ≡ Some c
      → ClientStands c (parts c.holder.partition) (came k) (own_of c.holder sent)
      (own_back c.holder sent back) (gave k)
  pub answered : List Cargo
  pub unanswered : List Cargo
  pub sent_are : answered ++ unanswered ≡ sent
  pub as_many : length answered ≡ length back
  pub are_of : AreOf w.clients.items w.line.shown unanswered
  pub within : (k : ℕ) (x : Cargo) → slice_get sent k ≡ Some x → IsSomeones (holders w) x

-- how many requests were counted
abbrev pub bad_count : Desk → ℕ
bad_count w = capped (sum_by (λ (c : Client). c.bad) w.clients.items)
