-- What the sending virtualiser keeps of all its clients, and how that stands for what passed.
use Rattle.std.specs.Prelude.{◌≡◌, ◌⊎◌, ◌+◌, ◌&&◌, ◌<◌, ◌^◌, ℕ, Bool, false, true, is_none, Option}
use Rattle.std.specs.Prelude.{Some, List, [], ◌∷◌, ◌++◌, All, map, flat_map, slice_get, slice_set}
use Rattle.std.specs.List.{list_any, sum_by}
use Rattle.std.specs.Option.{option_to_list}
use Rattle.cargo_core.specs.declared.item.Body.{Body}
use Rattle.cargo_core.specs.Ranges.{AreRanges}
use Rattle.wire_core.specs.Deeds.{Cargo}
use Rattle.turn_kit.specs.Hands.{bodies_of}
use Rattle.buffer_kit.specs.Entries.{addr_of}
use Rattle.net_virt_tx.specs.declared.client.Client.{Client}
use Rattle.net_virt_tx.specs.declared.descriptors.Sender.{Sender}
use Rattle.net_virt_tx.specs.declared.traffic.Traffic.{Traffic}
use Rattle.net_virt_tx.specs.Serving.{is_good_of, own_of}
use Rattle.net_virt_tx.specs.Clients.{IsClient, ClientStands, Moved, IsOf, is_idle, is_leaving}
use Rattle.net_virt_tx.specs.Clients.{is_loaded, is_away, load_of, client_cargo, capped, range_of}
use Rattle.net_virt_tx.specs.Clients.{is_marked, number_of}
use Rattle.buffer_kit.specs.Clients.{entry_in}
pub use Rattle.buffer_kit.specs.Clients.{is_so, with_more}

-- no entry came out of turn
abbrev pub is_free : Traffic → Bool
is_free w = is_none w.stray

-- the client's next descriptor is needed
abbrev pub needs_at : Traffic → ℕ → Bool
needs_at w k = is_none w.stray && is_so is_idle (slice_get w.clients.items k)

-- an entry is to go to the client
abbrev pub loaded_at : Traffic → ℕ → Bool
loaded_at w k = is_none w.stray && is_so is_loaded (slice_get w.clients.items k)

-- an entry is to go to the driver
abbrev pub owes : Traffic → Bool
owes w = is_none w.stray && list_any is_leaving w.clients.items

-- what a client has for the driver
abbrev pub leaving_in : Option Client → Option Cargo
leaving_in o = entry_in (λ (c : Client). c.leaving) o

-- what a client is given next
abbrev pub load_in : Option Client → Option Cargo
load_in o = entry_in (λ (c : Client). load_of c) o

-- what the client at a place has for the driver
abbrev pub leaving_at : Traffic → ℕ → Option Cargo
leaving_at w k = leaving_in (slice_get w.clients.items k)

-- what the client at a place is given next
abbrev pub load_at : Traffic → ℕ → Option Cargo
load_at w k = load_in (slice_get w.clients.items k)

-- the clients in their order
abbrev pub senders : Traffic → List Sender
senders w = map (λ (c : Client). c.sender) w.clients.items

-- the entries in its hand: those of each client, and one that came out of turn
abbrev pub traffic_cargo : Traffic → List Cargo
traffic_cargo w = flat_map client_cargo w.clients.items ++ option_to_list w.stray

-- the bodies of the entries in its hand
abbrev pub traffic_hand : Traffic → List Body
traffic_hand w = bodies_of (traffic_cargo w)

-- what it keeps of its clients fits together, and no two clients' ranges meet
pub record IsTraffic (w : Traffic) : Type 0 where
  pub each : (k : ℕ) (c : Client) → slice_get w.clients.items k ≡ Some c → IsClient c
  pub ranges_are : w.ranges ≡ map range_of (senders w)
  pub apart : AreRanges w.ranges
  pub few : sum_by (λ (s : Sender). s.buffers + 2) (senders w) < 2 ^ 32

-- the entry is at a buffer of one of these clients
abbrev pub IsSomeones : List Client → Cargo → Type 0
IsSomeones cs x = (k : ℕ) × (c : Client) × (slice_get cs k ≡ Some c) × IsOf c.sender x

-- how it stands for what came from each client by its place, what it sent to the driver, what
-- returned from there and what went back to each client
pub record TrafficStands (w : Traffic) (came : ℕ → List Cargo) (sent returned : List Cargo)
    (back : ℕ → List Cargo) : Type 0 where
  pub clients : (k : ℕ) (c : Client) → slice_get w.clients.items k ≡ Some c
      → ClientStands c (came k) (own_of c.sender sent) (own_of c.sender returned) (back k)
  pub within : All (IsSomeones w.clients.items) sent

-- the client at place k is served so much further, and all else stays
pub record OneMoved (old new : Traffic) (k : ℕ) (came sent returned back : List Cargo) :
    Type 0 where
  pub was : Client
  pub now : Client
  pub there : slice_get old.clients.items k ≡ Some was
  pub clients : new.clients.items ≡ slice_set old.clients.items k now
  pub ranges : new.ranges ≡ old.ranges
  pub stray : new.stray ≡ old.stray
  pub moved : Moved was now came sent returned back
  pub sent_own : All (IsOf was.sender) sent
  pub returned_own : All (IsOf was.sender) returned

-- its clients are as they were
abbrev pub IsStill : Traffic → Traffic → Type 0
IsStill old new = (new.clients.items ≡ old.clients.items) × (new.stray ≡ old.stray)

-- an entry returned: a client's buffer that was away, or it strays
abbrev pub TookBack : Traffic → Traffic → Cargo → Type 0
TookBack old new x = ((k : ℕ) × OneMoved old new k [] [] (x ∷ []) [])
    ⊎ (((k : ℕ) (c : Client) → slice_get old.clients.items k ≡ Some c
    → is_away c (addr_of x.0) ≡ false) × (new ≡ record old { stray = Some x }))

-- a descriptor of the client at place k is good, and its buffer is inside already
abbrev pub IsRepeat : Traffic → ℕ → Cargo → Type 0
IsRepeat w k x = (c : Client) × (slice_get w.clients.items k ≡ Some c) × (is_idle c ≡ true)
    × (is_good_of c.sender x ≡ true)
    × (is_marked c.inside (number_of x.1) ≡ true)

-- a descriptor came: it is served, or it strays
abbrev pub TookIn : Traffic → Traffic → ℕ → Cargo → Type 0
TookIn old new k x = OneMoved old new k (x ∷ []) [] [] []
    ⊎ (IsRepeat old k x × (new ≡ record old { stray = Some x }))

-- how many were counted
abbrev pub bad_count : Traffic → ℕ
bad_count w = capped (sum_by (λ (c : Client). c.bad_many) w.clients.items)
