-- The actors of a cast by what each has, and what stands in the queues between them.
use Rattle.std.specs.Prelude.{◌≡◌, ◌+◌, ◌<◌, ℕ, Some, List, [], ◌∷◌, map, drop, length, slice_get}
use Rattle.std.specs.List.{sum_by}
use Rattle.cargo_core.specs.declared.item.PoolId.{PoolId}
use Rattle.cargo_core.specs.declared.item.Body.{Body}
use Rattle.cargo_core.specs.declared.item.Body.TheVariants as Carried
use Rattle.cargo_core.specs.Lists.{IsPrefix}
use Rattle.wire_core.specs.declared.names.QueueRow.{QueueRow}
use Rattle.wire_core.specs.Deeds.{Cargo}
use Rattle.wire_core.specs.Lists.{Passed}
use Rattle.wire_core.specs.Marks.{sum_below}
use Rattle.turn_kit.specs.Hands.{bodies_of}
use Rattle.play_core.specs.Moved.{Seat}
use Rattle.owner_law.specs.Keeping.{Keeper, AreKeepers}
use Rattle.owner_law.specs.Pools.Lines.{came, went}
use Rattle.buffer_kit.specs.Conserving.{Count, counted, Conserves}

-- an actor: its ends, the bodies that it had at the start, those in its hand, and those that it
-- keeps for good or lends
pub record PageHolder : Type 0 where
  pub ends : List Seat
  pub start : List Body
  pub hand : List Body
  pub kept : List Body

-- its ends, without what it had
abbrev pub keeper : PageHolder → Keeper
keeper h = record { ends = h.ends; hand = λ pool. [] }

-- the entries that stand in a queue: those that were put and not taken
abbrev pub standing : Passed → ℕ → List Cargo
standing passed n = drop (length (passed.taken n)) (passed.sent n)

-- a moment of a cast: each actor has just the ends that the rows give it, queues hand over in
-- order, and each actor conserves buffers one by one. Who they are and what they put isn't asked
pub record AreHeld (rows : List QueueRow) (holders : List PageHolder) (passed : Passed) :
    Type 0 where
  pub ends : AreKeepers rows (map keeper holders)
  pub flows : (n : ℕ) → n < length rows → IsPrefix (passed.taken n) (passed.sent n)
  pub conserve : (k : ℕ) (h : PageHolder) → slice_get holders k ≡ Some h
      → Conserves h.start (came passed h.ends) (went passed h.ends) h.hand h.kept

-- a body that is a buffer of this pool has this length
abbrev pub HasLength : PoolId → ℕ → Body → Type 0
HasLength pool size Carried.Empty = Unit {0}
HasLength pool size (Carried.Page page) = page.pool.0 ≡ pool.0 → length page.bytes ≡ size
HasLength pool size (Carried.Lease lease) = Unit {0}

-- each of these bodies has
abbrev pub HaveLength : PoolId → ℕ → List Body → Type 0
HaveLength pool size [] = Unit {0}
HaveLength pool size (b ∷ bs) = HasLength pool size b × HaveLength pool size bs

-- what an actor has
abbrev pub has : Count → PageHolder → ℕ
has f h = counted f h.hand + counted f h.kept

-- what a queue has
abbrev pub queue_has : Count → Passed → ℕ → ℕ
queue_has f passed n = counted f (bodies_of (standing passed n))

-- what all queues and all actors have at a moment
abbrev pub now_counted : Count → List QueueRow → List PageHolder → Passed → ℕ
now_counted f rows holders passed =
    sum_below (queue_has f passed) (length rows) + sum_by (has f) holders

-- what all actors had at the start
abbrev pub start_counted : Count → List PageHolder → ℕ
start_counted f holders = sum_by (λ (h : PageHolder). counted f h.start) holders
