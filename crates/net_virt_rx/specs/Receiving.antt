-- The receiving virtualiser: what it must fit, what it stands for, and its row.
use Rattle.std.specs.Prelude.{◌≡◌, ◌⊎◌, ◌+◌, ◌==◌, ◌<◌, ◌≤◌, ℕ, is_some, Some, List, ◌∷◌, ◌++◌}
use Rattle.std.specs.Prelude.{All, length, map, slice_get, slice_index_or, false}
use Rattle.std.specs.Option.{option_to_list}
use Rattle.cargo_core.specs.Lists.{IsPrefix}
use Rattle.cargo_core.specs.Pages.{Paged}
use Rattle.frame_core.specs.declared.mac.Mac.{Mac}
use Rattle.wire_core.specs.declared.names.QueueId.{QueueId}
use Rattle.wire_core.specs.Deeds.{Cargo}
use Rattle.wire_core.specs.Lists.{Lists, Passed, if_there}
use Rattle.wire_core.specs.Ends.{Role, End}
use Rattle.turn_kit.specs.Turns.{Round}
use Rattle.turn_kit.specs.Hands.{Balances, bodies_at}
use Rattle.buffer_kit.specs.Pools.{given_entry, page_bodies}
use Rattle.buffer_kit.specs.Stocks.{IsStart}
use Rattle.buffer_kit.specs.Virtualising.{FitsVirt, SameVirt, IsNewVirt, VirtForgot, VirtOwns}
use Rattle.buffer_kit.specs.Virtualising.{virt_round, virt_came, virt_went, from_queues, to_queues}
use Rattle.buffer_kit.specs.declared.stock.Stock.{Stock}
use Rattle.net_virt_rx.specs.declared.LeaseEnds.{LeaseEnds}
use Rattle.net_virt_rx.specs.declared.NetVirtRx.{NetVirtRx}
use Rattle.net_virt_rx.specs.declared.sharer.Sharer.{Sharer}
use Rattle.net_virt_rx.specs.Sharing.{IsSharer, SameSharer, IsNewSharer, SharerStands, IsBuffer}
use Rattle.net_virt_rx.specs.Sharing.{IsFrameInTurn, IsLeaseInTurn, is_idle, sharer_hand}
use Rattle.net_virt_rx.specs.Sharing.{lent_bodies, leases_for, named}

-- the queue at a place
abbrev pub queue_at : List QueueId → ℕ → ℕ
queue_at qs k = (slice_index_or qs k (record { 0 = 0 })).0

-- its ends are its own, and as it keeps them; each client has one each way
pub record FitsRx (ends : Role → ℕ → End) (v : NetVirtRx) : Type 0 where
  pub ends_fit : FitsVirt ends v.ends
  pub work : IsSharer v.work
  pub from_each : length (from_queues v.ends) ≡ length v.work.macs.items
  pub to_each : length (to_queues v.ends) ≡ length v.work.macs.items

-- an entry that was taken at the queue `place` is out of turn, by what was taken in turn and what
-- was put: at the queue of frames, or at one of those on which leases come back
abbrev pub IsOutOfTurn : (input output : ℕ) (from_clients : List QueueId) → Sharer
    → (turn sent : Lists) → ℕ → Cargo → Type 0
IsOutOfTurn input output from_clients w turn sent place c =
    ((place ≡ input) × (IsFrameInTurn w.stock (turn input) (sent output) c → ⊥))
    ⊎ ((k : ℕ) × (mac : Mac) × (slice_get w.macs.items k ≡ Some mac)
    × (place ≡ queue_at from_clients k)
    × (IsLeaseInTurn w.stock mac (turn input) (turn place) c → ⊥))

-- what it took is what came in turn and at most one entry, which came last; it stands for what came
-- in turn and what it put; and what it had at the start and what came is what went, what is in its
-- hand, and what is lent
pub record RxStands (input output : ℕ) (from_clients to_clients : List QueueId) (w : Sharer)
    (passed : Passed) : Type 0 where
  pub work : IsSharer w
  pub start : List Paged
  pub is_start : IsStart w.stock start
  pub turn : Lists
  pub place : ℕ
  pub taken : (n : ℕ) → passed.taken n ≡ turn n ++ if_there (place == n) (option_to_list w.stray)
  pub stands : SharerStands w start (turn input) (passed.sent output)
      (λ k. passed.sent (queue_at to_clients k)) (λ k. turn (queue_at from_clients k))
  pub stray : (c : Cargo) → w.stray ≡ Some c
      → IsOutOfTurn input output from_clients w turn passed.sent place c
  pub balances : Balances (page_bodies start)
      (bodies_at passed.taken (input ∷ map (λ q. q.0) from_clients))
      (bodies_at passed.sent (output ∷ map (λ q. q.0) to_clients)) (sharer_hand w)
      (lent_bodies w.lent)

-- the same of the virtualiser's own queues
abbrev pub RxStandsFor : NetVirtRx → Passed → Type 0
RxStandsFor v passed = RxStands v.ends.input.queue.0 v.ends.output.queue.0 (from_queues v.ends)
    (to_queues v.ends) v.work passed

-- how a client is served, by what was taken in turn and what was put: it is given the leases of the
-- frames for it, in their order, and those of all frames but the last before another frame is
-- taken; no more leases of a buffer come back than were due, of a buffer at most one is due or out;
-- and while one is, the buffer isn't given
pub record IsServed (s : Stock) (mac : Mac) (frames earlier given shared back : List Cargo) :
    Type 0 where
  pub lends : IsPrefix shared (leases_for s.size mac frames)
  pub prompt : IsPrefix (leases_for s.size mac earlier) shared
  pub backs : (b : ℕ) → b < s.buffers → named 0 s.size b back
      ≤ named 0 s.size b (leases_for s.size mac frames)
  pub single : (b : ℕ) → b < s.buffers → named 0 s.size b (leases_for s.size mac frames)
      ≤ named 0 s.size b back + 1
  pub not_lent : (b : ℕ) → b < s.buffers → named 0 s.size b back
      < named 0 s.size b (leases_for s.size mac frames) → named s.base s.size b given
      ≤ named s.base s.size b frames

-- of what it took in turn, which is all but for one entry that came last: each frame came in one of
-- its buffers; it gave all its buffers in rising number, and each one later only after a frame came
-- in it; and it serves each client. A frame is taken only when no lease of the one before is owed:
-- those of all but the last are given
pub record RxRow (v : NetVirtRx) (passed : Passed) : Type 0 where
  pub start : List Paged
  pub is_start : IsStart v.work.stock start
  pub turn : Lists
  pub place : ℕ
  pub stray : List Cargo
  pub taken : (n : ℕ) → passed.taken n ≡ turn n ++ if_there (place == n) stray
  pub few_stray : length stray ≤ 1
  pub out_of_turn : All (IsOutOfTurn v.ends.input.queue.0 v.ends.output.queue.0 (from_queues v.ends)
      v.work turn passed.sent place) stray
  pub earlier : List Cargo
  pub latest : List Cargo
  pub split : turn v.ends.input.queue.0 ≡ earlier ++ latest
  pub few : length latest ≤ 1
  pub within : All (IsBuffer v.work.stock) (turn v.ends.input.queue.0)
  pub later : List Cargo
  pub gives : IsPrefix (passed.sent v.ends.output.queue.0)
      (map (given_entry v.work.stock.base v.work.stock.size) start ++ later)
  pub given_within : All (IsBuffer v.work.stock) (passed.sent v.ends.output.queue.0)
  pub in_hand : (b : ℕ) → b < v.work.stock.buffers
      → named v.work.stock.base v.work.stock.size b (passed.sent v.ends.output.queue.0)
      ≤ named v.work.stock.base v.work.stock.size b (turn v.ends.input.queue.0) + 1
  pub serves : (k : ℕ) (mac : Mac) (q r : QueueId) → slice_get v.work.macs.items k ≡ Some mac
      → slice_get (to_queues v.ends) k ≡ Some q → slice_get (from_queues v.ends) k ≡ Some r
      → IsServed v.work.stock mac (turn v.ends.input.queue.0) earlier
      (passed.sent v.ends.output.queue.0) (passed.sent q.0) (turn r.0)
  -- an entry that came out of turn is in its hand
  pub strayed : stray ≡ option_to_list v.work.stray

-- what it had at the start and what came is what went, what is in its hand, and the buffers that
-- are lent
pub record RxBalances (v : NetVirtRx) (passed : Passed) : Type 0 where
  pub start : List Paged
  pub is_start : IsStart v.work.stock start
  pub balances : Balances (page_bodies start) (bodies_at passed.taken (virt_came v.ends))
      (bodies_at passed.sent (virt_went v.ends)) (sharer_hand v.work) (lent_bodies v.work.lent)

-- one of its ends
abbrev pub RxEnd : NetVirtRx → Role → ℕ → Type 0
RxEnd v role n = VirtOwns v.ends role n

-- the queues, the clients and the buffers of which it had all at the start stay
pub record SameRx (old new : NetVirtRx) : Type 0 where
  pub ends : SameVirt old.ends new.ends
  pub work : SameSharer old.work new.work

-- a virtualiser in its start state
pub record IsNewRx (active free : QueueId) (base : ℕ) (clients : List LeaseEnds)
    (pages : List Paged) (v : NetVirtRx) : Type 0 where
  pub ends : IsNewVirt active free (map (λ (c : LeaseEnds). c.free) clients)
      (map (λ (c : LeaseEnds). c.active) clients) v.ends
  pub work : IsNewSharer base (map (λ (c : LeaseEnds). c.mac) clients) pages v.work

-- its ends: it needs frames and leases while it has no lease and no buffer in its hand, and owes
-- buffers and leases
abbrev pub rx_round : NetVirtRx → Round
rx_round v = virt_round v.ends (is_idle v.work) (is_some v.work.stock.next)
    (λ k. is_idle v.work) (λ k. slice_index_or v.work.owed k false)

-- the same without the last looks
pub record RxForgot (old new : NetVirtRx) : Type 0 where
  pub ends : VirtForgot old.ends new.ends
  pub work : new.work ≡ old.work
