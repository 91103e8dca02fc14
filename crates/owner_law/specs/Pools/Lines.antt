-- What an actor has of each pool, and what a moment shows: the table, the entries that stand in the
-- queues, and the actors with what is in their hands and lent.
use Rattle.std.specs.Prelude.{◌≡◌, ◌+◌, ◌<◌, ◌≤◌, ◌++◌, ℕ, Some, List, All, [], length, map}
use Rattle.std.specs.Prelude.{flat_map, slice_get}
use Rattle.cargo_core.specs.declared.item.PoolId.{PoolId}
use Rattle.cargo_core.specs.declared.item.Body.{Body}
use Rattle.cargo_core.specs.Bodies.{buffers_of}
use Rattle.wire_core.specs.declared.names.QueueRow.{QueueRow}
use Rattle.wire_core.specs.declared.names.Entry.{Entry}
use Rattle.wire_core.specs.Bells.{bit}
use Rattle.wire_core.specs.Ends.{Role, Consumer, Producer}
use Rattle.wire_core.specs.Journal.{History, Hostiles}
use Rattle.wire_core.specs.Lists.{Passed}
use Rattle.wire_core.specs.Marks.{sum_below}
use Rattle.wire_core.specs.Queues.{Queue, queue_at}
use Rattle.turn_kit.specs.Hands.{bodies_of}
use Rattle.play_core.specs.Moved.{Moved, Seat, moved}
use Rattle.owner_law.specs.Things.{Window, Names, NoBuffers, Buffers, Frames, Leases, Returns}
use Rattle.owner_law.specs.Things.{Answers, Naming}
use Rattle.owner_law.specs.Owners.{Table}
use Rattle.owner_law.specs.Keeping.{Keeper, all_taken, is_out, IsOwned}
use Rattle.owner_law.specs.Pages.{CarryPages}

-- an actor as a program has it: its ends and its start, the bodies in its hand, and of each pool,
-- by its number, how many buffers it has lent
pub record Holder : Type 0 where
  pub keeper : Keeper
  pub hand : List Body
  pub lent : ℕ → ℕ

-- the actors' ends and starts
abbrev pub keepers_of : List Holder → List Keeper
keepers_of holders = map (λ (h : Holder). h.keeper) holders

-- the bodies that passed at an end into an actor's hand
abbrev pub bodies_in : Passed → Role → ℕ → List Body
bodies_in passed Consumer n = bodies_of (passed.taken n)
bodies_in passed Producer n = []

-- the bodies that passed there out of its hand
abbrev pub bodies_out : Passed → Role → ℕ → List Body
bodies_out passed Consumer n = []
bodies_out passed Producer n = bodies_of (passed.sent n)

-- all bodies that an actor took
abbrev pub came : Passed → List Seat → List Body
came passed ends = flat_map (λ (s : Seat). bodies_in passed s.role s.queue) ends

-- all bodies that it put
abbrev pub went : Passed → List Seat → List Body
went passed ends = flat_map (λ (s : Seat). bodies_out passed s.role s.queue) ends

-- how many of a pool's first buffers an actor has lent, by what it took: those lent to more
-- receivers than gave them back
abbrev pub lent_by : Naming → Moved → List Seat → (pool buffers : ℕ) → ℕ
lent_by naming m ends pool buffers =
    sum_below (λ no. bit (is_out (record { pool = pool; no = no }) (all_taken naming m ends)))
    buffers

-- of each pool, what an actor had at the start and what came is what went, what is in its hand, and
-- what it has lent, which is what its takes say; here each pool has so many buffers
pub record HoldsIts (naming : Naming) (sizes : ℕ → ℕ) (m : Moved) (passed : Passed)
    (h : Holder) : Type 0 where
  pub balances : (pool : PoolId) → length (h.keeper.hand pool.0)
      + buffers_of pool (came passed h.keeper.ends) ≡ buffers_of pool (went passed h.keeper.ends)
      + (buffers_of pool h.hand + h.lent pool.0)
  pub lends : (pool : ℕ) → h.lent pool ≡ lent_by naming m h.keeper.ends pool (sizes pool)

-- a window is on a pool's own buffers
abbrev pub IsWithin : (ℕ → ℕ) → Window → Type 0
IsWithin sizes w = w.buffers ≤ sizes w.pool

-- all windows by which a queue's items name buffers are
abbrev pub NamesWithin : (ℕ → ℕ) → Names → Type 0
NamesWithin sizes NoBuffers = Unit {0}
NamesWithin sizes (Buffers ws) = All (IsWithin sizes) ws
NamesWithin sizes (Frames ws receivers) = All (IsWithin sizes) ws
NamesWithin sizes (Leases ws) = All (IsWithin sizes) ws
NamesWithin sizes (Returns ws) = All (IsWithin sizes) ws
NamesWithin sizes (Answers q ws) = All (IsWithin sizes) ws

-- the buffers that an actor has at the start are the pools' own
abbrev pub HandWithin : (ℕ → ℕ) → Keeper → Type 0
HandWithin sizes p = (pool : ℕ) → All (λ no. no < sizes pool) (p.hand pool)

-- the journal has one owner of each buffer, and after it each queue has in it what was put there
-- and not taken, entries carry the pages that their items name, and each actor has what it held of
-- each pool
pub record AreLines (naming : Naming) (lender : ℕ) (hostile : Hostiles) (history : History)
    (rows : List QueueRow) (sizes : ℕ → ℕ) (holders : List Holder) (start : Table)
    (journal : List Entry) (passed : Passed) (world : List Queue) : Type 0 where
  pub owned : IsOwned naming lender hostile history rows (keepers_of holders) start journal
  pub carry : CarryPages naming (moved history journal) passed
  pub stands_there : (n : ℕ) → passed.sent n ≡ passed.taken n ++ (queue_at world n).entries
  pub size : length world ≡ length rows
  pub names : (n : ℕ) → NamesWithin sizes (naming n)
  pub starts : (k : ℕ) (h : Holder) → slice_get holders k ≡ Some h → HandWithin sizes h.keeper
  pub holds : (k : ℕ) (h : Holder) → slice_get holders k ≡ Some h
      → HoldsIts naming sizes (moved history journal) passed h
