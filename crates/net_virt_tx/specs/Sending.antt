-- The sending virtualiser: what it must fit, what it stands for, and its row.
use Rattle.std.specs.Prelude.{◌≡◌, ◌⊎◌, ◌+◌, ◌*◌, ◌==◌, ◌<◌, ◌≤◌, ◌^◌, ℕ, true, None, Some, List}
use Rattle.std.specs.Prelude.{[], ◌∷◌, ◌++◌, All, length, map, slice_get}
use Rattle.std.specs.List.{filter, sum_by}
use Rattle.std.specs.Option.{option_to_list}
use Rattle.cargo_core.specs.declared.ranges.Range.{Range}
use Rattle.cargo_core.specs.Lists.{PrefixMerge}
use Rattle.cargo_core.specs.Ranges.{AreRanges}
use Rattle.wire_core.specs.declared.names.QueueId.{QueueId}
use Rattle.wire_core.specs.Deeds.{Cargo}
use Rattle.wire_core.specs.Lists.{Lists, Passed, if_there}
use Rattle.wire_core.specs.Ends.{Role, End}
use Rattle.turn_kit.specs.Turns.{Round}
use Rattle.turn_kit.specs.Hands.{Balances, bodies_at}
use Rattle.buffer_kit.specs.Entries.{addr_of}
use Rattle.buffer_kit.specs.Virtualising.{FitsVirt, SameVirt, IsNewVirt, VirtForgot, VirtOwns}
use Rattle.buffer_kit.specs.Virtualising.{virt_round, virt_came, virt_went, from_queues, to_queues}
use Rattle.net_virt_tx.specs.declared.TxEnds.{TxEnds}
use Rattle.net_virt_tx.specs.declared.NetVirtTx.{NetVirtTx}
use Rattle.net_virt_tx.specs.declared.client.Client.{Client}
use Rattle.net_virt_tx.specs.declared.descriptors.Sender.{Sender}
use Rattle.net_virt_tx.specs.declared.traffic.Traffic.{Traffic}
use Rattle.net_virt_tx.specs.Descriptors.{to_device}
use Rattle.net_virt_tx.specs.Serving.{IsServed, is_good_of, bad_ones}
use Rattle.net_virt_tx.specs.Clients.{IsFresh, IsOf, at_address, capped, is_idle, range_of}
use Rattle.net_virt_tx.specs.Traffics.{IsTraffic, TrafficStands, bad_count, is_free, loaded_at}
use Rattle.net_virt_tx.specs.Traffics.{needs_at, owes, senders, traffic_hand}
pub use Rattle.buffer_kit.specs.Clients.{queue_at}

-- its ends are its own, and as it keeps them; each client has one each way
pub record FitsTx (ends : Role → ℕ → End) (v : NetVirtTx) : Type 0 where
  pub ends_fit : FitsVirt ends v.ends
  pub work : IsTraffic v.work
  pub from_each : length (from_queues v.ends) ≡ length v.work.clients.items
  pub to_each : length (to_queues v.ends) ≡ length v.work.clients.items

-- an entry comes back from the driver in turn where more entries at its address went there than
-- came back
abbrev pub IsBackInTurn : (sent returned : List Cargo) → Cargo → Type 0
IsBackInTurn sent returned c =
    at_address (addr_of c.0) returned < at_address (addr_of c.0) sent

-- a descriptor comes in turn where it is bad, or all that came at its offset went back
abbrev pub IsDescriptorInTurn : Sender → (came back : List Cargo) → Cargo → Type 0
IsDescriptorInTurn s came back c =
    is_good_of s c ≡ true → at_address (addr_of c.0) came ≤ at_address (addr_of c.0) back

-- an entry that was taken at the queue `place` is out of turn, by what was taken in turn and what
-- was put: at the queue on which buffers come back, or at one of those of the clients
abbrev pub IsOutOfTurn : (input output : ℕ) (from_clients to_clients : List QueueId)
    → List Sender → (turn sent : Lists) → ℕ → Cargo → Type 0
IsOutOfTurn input output from_clients to_clients ss turn sent place c =
    ((place ≡ input) × (IsBackInTurn (sent output) (turn input) c → ⊥))
    ⊎ ((k : ℕ) × (s : Sender) × (slice_get ss k ≡ Some s) × (place ≡ queue_at from_clients k)
    × (IsDescriptorInTurn s (turn place) (sent (queue_at to_clients k)) c → ⊥))

-- each client has a queue each way; what it took is what came in turn and at most one entry, which
-- came last; it stands for what came in turn and what it put; of the client whose entry strayed,
-- nothing else waits; and what came is what went and what is in its hand
pub record TxStands (input output : ℕ) (from_clients to_clients : List QueueId) (w : Traffic)
    (passed : Passed) : Type 0 where
  pub work : IsTraffic w
  pub from_each : length from_clients ≡ length w.clients.items
  pub to_each : length to_clients ≡ length w.clients.items
  pub turn : Lists
  pub place : ℕ
  pub taken : (n : ℕ) → passed.taken n ≡ turn n ++ if_there (place == n) (option_to_list w.stray)
  pub stands : TrafficStands w (λ k. turn (queue_at from_clients k)) (passed.sent output)
      (turn input) (λ k. passed.sent (queue_at to_clients k))
  pub stray : (c : Cargo) → w.stray ≡ Some c → IsOutOfTurn input output from_clients to_clients
      (senders w) turn passed.sent place c
  pub alone : (k : ℕ) (c : Client) (x : Cargo) → w.stray ≡ Some x
      → slice_get w.clients.items k ≡ Some c → place ≡ queue_at from_clients k → is_idle c ≡ true
  pub balances : Balances [] (bodies_at passed.taken (input ∷ map (λ q. q.0) from_clients))
      (bodies_at passed.sent (output ∷ map (λ q. q.0) to_clients)) (traffic_hand w) []

-- the same of the virtualiser's own queues
abbrev pub TxStandsFor : NetVirtTx → Passed → Type 0
TxStandsFor v passed = TxStands v.ends.input.queue.0 v.ends.output.queue.0 (from_queues v.ends)
    (to_queues v.ends) v.work passed

-- how many bad descriptors came from the clients, each on its own queue
abbrev pub bad_total : List Sender → List QueueId → Lists → ℕ
bad_total [] qs lists = 0
bad_total (s ∷ ss) [] lists = 0
bad_total (s ∷ ss) (q ∷ qs) lists = length (bad_ones s (lists q.0)) + bad_total ss qs lists

-- of what came from the clients, each on its own queue, the good descriptors with their device
-- addresses
abbrev pub all_good : List Sender → List QueueId → Lists → List (List Cargo)
all_good [] qs lists = []
all_good (s ∷ ss) [] lists = []
all_good (s ∷ ss) (q ∷ qs) lists =
    map (to_device s.base) (filter (is_good_of s) (lists q.0)) ∷ all_good ss qs lists

-- an entry is at a buffer of one of these clients
abbrev pub IsAnyones : List Sender → Cargo → Type 0
IsAnyones ss c = (k : ℕ) × (s : Sender) × (slice_get ss k ≡ Some s) × IsOf s c

-- each buffer of the client went to the driver as often as it came back, or once more
abbrev pub AreAway : Sender → (sent returned : List Cargo) → Type 0
AreAway s sent returned = (b : ℕ) → b < s.buffers
    → (at_address (s.base + b * s.size) returned ≤ at_address (s.base + b * s.size) sent)
    × (at_address (s.base + b * s.size) sent ≤ at_address (s.base + b * s.size) returned + 1)

-- its clients' ranges don't meet, no buffer is empty, and each client has a queue each way; of what
-- it took in turn,
-- which is all but for one entry that came last: what it gave the driver is a merge of beginnings
-- of each client's good descriptors with their device addresses, each at a buffer of the client,
-- which is at the driver at most once; it serves each client; it counts the bad descriptors; and
-- the entry out of turn is in its hand
pub record TxRow (v : NetVirtTx) (passed : Passed) : Type 0 where
  pub apart : AreRanges (map range_of (senders v.work))
  pub sized : (k : ℕ) (s : Sender) → slice_get (senders v.work) k ≡ Some s → 1 ≤ s.size
  pub from_each : length (from_queues v.ends) ≡ length (senders v.work)
  pub to_each : length (to_queues v.ends) ≡ length (senders v.work)
  pub turn : Lists
  pub place : ℕ
  pub stray : List Cargo
  pub taken : (n : ℕ) → passed.taken n ≡ turn n ++ if_there (place == n) stray
  pub few_stray : length stray ≤ 1
  pub out_of_turn : All (IsOutOfTurn v.ends.input.queue.0 v.ends.output.queue.0
      (from_queues v.ends) (to_queues v.ends) (senders v.work) turn passed.sent place) stray
  pub merges : PrefixMerge (all_good (senders v.work) (from_queues v.ends) turn)
      (passed.sent v.ends.output.queue.0)
  pub within : All (IsAnyones (senders v.work)) (passed.sent v.ends.output.queue.0)
  pub away : (k : ℕ) (s : Sender) → slice_get (senders v.work) k ≡ Some s
      → AreAway s (passed.sent v.ends.output.queue.0) (turn v.ends.input.queue.0)
  pub serves : (k : ℕ) (s : Sender) (q r : QueueId) → slice_get (senders v.work) k ≡ Some s
      → slice_get (from_queues v.ends) k ≡ Some q → slice_get (to_queues v.ends) k ≡ Some r
      → IsServed s (turn q.0) (passed.sent v.ends.output.queue.0) (turn v.ends.input.queue.0)
      (passed.sent r.0)
  pub bad : bad_count v.work ≡ capped (bad_total (senders v.work) (from_queues v.ends) turn)
  pub strayed : stray ≡ option_to_list v.work.stray

-- it keeps nothing, and has nothing at the start
abbrev pub TxBalances : NetVirtTx → Passed → Type 0
TxBalances v passed = Balances [] (bodies_at passed.taken (virt_came v.ends))
    (bodies_at passed.sent (virt_went v.ends)) (traffic_hand v.work) []

-- one of its ends
abbrev pub TxEnd : NetVirtTx → Role → ℕ → Type 0
TxEnd v role n = VirtOwns v.ends role n

-- the queues and the clients stay
pub record SameTx (old new : NetVirtTx) : Type 0 where
  pub ends : SameVirt old.ends new.ends
  pub work : senders new.work ≡ senders old.work

-- a client as it sends, where the longest frame has so many bytes
abbrev pub sender_of : ℕ → TxEnds → Sender
sender_of most c = record {
  pool = c.pool;
  buffers = c.buffers;
  base = c.base;
  size = c.size;
  most = most;
}

-- the device addresses of a client's buffers
abbrev pub tx_range : TxEnds → Range
tx_range c = record { base = c.base; size = c.buffers * c.size }

-- of these clients nothing came yet
pub record IsNewTraffic (ss : List Sender) (w : Traffic) : Type 0 where
  pub senders_are : senders w ≡ ss
  pub fresh : (k : ℕ) (c : Client) → slice_get w.clients.items k ≡ Some c → IsFresh c
  pub none_stray : w.stray ≡ None

-- a virtualiser in its start state
pub record IsNewTx (active free : QueueId) (clients : List TxEnds) (most : ℕ) (v : NetVirtTx)
    : Type 0 where
  pub ends : IsNewVirt free active (map (λ (c : TxEnds). c.active) clients)
      (map (λ (c : TxEnds). c.free) clients) v.ends
  pub work : IsNewTraffic (map (sender_of most) clients) v.work

-- these are the ranges of the clients' buffers, no buffer is empty, each range ends at most at
-- 2^62, and all clients together have few
pub record FitsClients (clients : List TxEnds) (ranges : List Range) : Type 0 where
  pub ranges_are : ranges ≡ map tx_range clients
  pub sized : All (λ (c : TxEnds). 1 ≤ c.size) clients
  pub ends : All (λ (c : TxEnds). c.base + c.buffers * c.size ≤ 2 ^ 62) clients
  pub few : sum_by (λ (c : TxEnds). c.buffers + 2) clients < 2 ^ 32

-- its ends: it needs buffers that come back, and the next descriptor of each client of which none
-- is still to be put; it owes good descriptors to the driver, and to each client what goes back to
-- it. After an entry out of turn it needs and owes nothing
abbrev pub tx_round : NetVirtTx → Round
tx_round v = virt_round v.ends (is_free v.work) (owes v.work) (needs_at v.work) (loaded_at v.work)

-- the same without the last looks
pub record TxForgot (old new : NetVirtTx) : Type 0 where
  pub ends : VirtForgot old.ends new.ends
  pub work : new.work ≡ old.work
