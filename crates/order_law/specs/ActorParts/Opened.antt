-- What actors are where they were set apart with new rings.
use Rattle.std.specs.Prelude.{◌≡◌, ℕ, Some, None, List, [], length, map, not, slice_get}
use Rattle.std.specs.List.{AllZip, zip}
use Rattle.wire_core.specs.declared.names.QueueId.{QueueId}
use Rattle.wire_core.specs.declared.names.QueueRow.{QueueRow}
use Rattle.wire_core.specs.Ends.{Role}
use Rattle.wire_core.specs.Journal.{is_calm}
use Rattle.spsc_queue.specs.Known.Ends.{EndIs, RingIs}
use Rattle.actor_set.specs.Actors.{part_of}
use Rattle.actor_set.specs.Laws.Kinds.{hostiles}
use Rattle.actor_set.specs.declared.actor.Actor.{Actor}
use Rattle.seat_wires.specs.Places.{entries_known}
use Rattle.seat_wires.specs.Times.{times_known}
use Rattle.order_law.specs.ActorParts.Parting.{Apart, ends_at, end_in, hostile_apart, IsRingOf}
use Rattle.order_law.specs.ActorParts.Opening.{opened_from, first_half, IsForgotten}
use Rattle.order_law.specs.ActorParts.Given.{Kept, apart_of}

-- one new ring for each of these rows, wild where a hostile actor has an end of its queue, and each
-- actor with the ends of new rings that the rows give it, in their order
pub record AreOpened (rows : List QueueRow) (actors : List Actor) (rings : List RingIs)
    (parts : List Kept) : Type 0 where
  pub rings_are : AllZip (IsRingOf (hostiles (map part_of actors))) rows rings
  pub many : length parts ≡ length actors
  pub actors_are : (k : ℕ) (p : Kept) → slice_get parts k ≡ Some p → (x : Actor)
      × (slice_get actors k ≡ Some x) × IsForgotten x p.0.actor
  pub fine : (k : ℕ) (p : Kept) → slice_get parts k ≡ Some p → p.0.wanted ≡ None
  pub ends : (k : ℕ) (p : Kept) → slice_get parts k ≡ Some p → (r : Role)
      → ends_at (apart_of p) r ≡ opened_from r k 0 (zip rows rings)

-- nothing passed at any end, at no time
abbrev pub HaveNothing : List Apart → Type 0
HaveNothing parts = (k : ℕ) (p : Apart) → slice_get parts k ≡ Some p → (r : Role) (n : ℕ)
    → (entries_known (end_in (ends_at p r) n) ≡ []) × (times_known (end_in (ends_at p r) n) ≡ [])

-- each end knows what one of a new ring knows: nothing passed, no look answered no, no step was
-- made, and it is not about either bell yet; its ring is wild where a hostile one of these has an
-- end of the queue
abbrev pub AreAsOpened : List QueueRow → List Apart → Type 0
AreAsOpened rows parts = (k : ℕ) (p : Apart) → slice_get parts k ≡ Some p → (r : Role) (i : ℕ)
    (x : QueueId × EndIs) → slice_get (ends_at p r) i ≡ Some x → (row : QueueRow)
    × (slice_get rows x.0.0 ≡ Some row)
    × (x.1.knows ≡ first_half r row.kind (not (is_calm (hostile_apart parts) row)))
