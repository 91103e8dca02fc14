use Rattle.std.proofs.Common.{◌≡◌, ◌<◌, ◌≤◌, ℕ, Some, List, All, get_or, length, map, slice_get, refl, sym, subst}
use Rattle.std.proofs.lemmas.List.{length-map}
use Rattle.std.proofs.lemmas.Option.{slice_get-get_or}
use Rattle.wire_core.specs.declared.names.PoolRow.{PoolRow}
use Rattle.wire_core.specs.declared.names.QueueRow.{QueueRow}
use Rattle.wire_core.specs.Ends.{Consumer, Producer}
use Rattle.wire_core.specs.Queues.{starts}
use Rattle.wire_core.specs.Journal.{History, start_history, owner_of}
use Rattle.wire_core.proofs.BellTheorem.{starts_hold, starts_flow}
use Rattle.cargo_core.specs.Capacities.{IsCapacity}
use Rattle.wire_core.specs.Sizes.{AreSized}
use Rattle.play_core.specs.Moved.{Seat}
use Rattle.play_core.specs.Sheets.{Scene, IsSeat, AreFilled, AreSeated as HaveSeats}
use Rattle.play_core.proofs.Lists.{map_from, there_is}
use Rattle.actor_set.specs.Parts.{Part}
use Rattle.actor_set.specs.Actors.{part_of}
use Rattle.actor_set.specs.declared.actor.Actor.{Actor}
use Rattle.actor_set.specs.Laws.Kinds.{sheet, scene_of, hostiles}
use Rattle.cast_law.specs.Pools.Places.{PoolPlace, IsInPlace, IsPlaced, HasPools, ArePooled}
use Rattle.cast_law.specs.Pools.Owning.{HasOwnersBeside}
use Rattle.cast_law.proofs.OwningLemmas.Beginning.{owners_beside}
use Rattle.system_core.specs.Shows.{Crew, Setting}
use Rattle.system_core.specs.States.{begun}
use Rattle.cast_law.specs.Seats.{AreSeated}
use Rattle.system_core.specs.Lawful.{IsFitted}
use Rattle.system_core.specs.Systems.{GoesOn}
use Rattle.system_core.proofs.Starting.{start_holds}
use Rattle.system_core.proofs.Seating.{seated_start}
use Rattle.actor_set.proofs.LawsLemmas.Starts.{new_whole}
use Rattle.actor_set.proofs.LawsLemmas.PartEnds.{PartEnd, to_part, from_part, end_seat, seat_end}

-- the queues have sizes that wires take
capacities : (rows : List QueueRow) → ((n : ℕ) (row : QueueRow) → slice_get rows n ≡ Some row → IsCapacity row.capacity) → All (λ row. IsCapacity row.capacity) rows
capacities rows places = λ k d lt. places k (get_or rows k d) (slice_get-get_or rows k d lt)

pub are_sized : (rows : List QueueRow) → length rows ≤ 65536 → ((n : ℕ) (row : QueueRow) → slice_get rows n ≡ Some row → IsCapacity row.capacity) → AreSized rows
are_sized rows few places = record { few = few; capacities = capacities rows places }

-- the cast of a setting that fits is in place
pub fitted_place : (s : Setting) → IsFitted s → IsInPlace s.rows s.pools s.cast
fitted_place s fitted = record {
  peopled = fitted.peopled;
  seated = subst (λ z. HaveSeats (sheet z) s.rows s.cast) fitted.scene_is fitted.seated;
  filled = subst (λ z. AreFilled (sheet z) s.rows s.cast) fitted.scene_is fitted.ends;
  pooled = fitted.pooled;
}

-- seated actors fit the rows
module _ (rows : List QueueRow) (actors : List Actor) (s : AreSeated rows actors) where
  abbrev scene : Scene
  scene = scene_of (map part_of actors)

  end_given : (k : ℕ) (p : Part) → slice_get (map part_of actors) k ≡ Some p → (i : ℕ) (x : Seat) → slice_get (sheet scene p).ends i ≡ Some x → IsSeat rows k x
  end_given k p at i x end =
      let y = map_from part_of actors k p at in
      let own = from_part y.0 x.role x.queue (subst (λ q. PartEnd q x.role x.queue) (sym y.2) (seat_end scene p i x end)) in
      let seat = s.seats k y.0 y.1 x.role x.queue own in
      (seat.row, seat.there, seat.owner)

  seat_given : (k : ℕ) (p : Part) → slice_get (map part_of actors) k ≡ Some p → (x : Seat) → IsSeat rows k x → (i : ℕ) × (slice_get (sheet scene p).ends i ≡ Some x)
  seat_given k p at x seat =
      let y = map_from part_of actors k p at in
      let own = s.ends k y.0 y.1 x.queue seat.0 seat.1 x.role seat.2 in
      end_seat scene p x.role x.queue (subst (λ q. PartEnd q x.role x.queue) y.2 (to_part y.0 x.role x.queue (new_whole y.0 (s.new k y.0 y.1)) own))

  two_owners : (n : ℕ) (row : QueueRow) → slice_get rows n ≡ Some row → row.producer.0 ≡ row.consumer.0 → ⊥
  two_owners n row at same =
      let y = there_is actors row.producer.0 (s.peers n row at Producer) in
      s.split row.producer.0 y.0 y.1 n (s.ends row.producer.0 y.0 y.1 n row at Consumer (sym same)) (s.ends row.producer.0 y.0 y.1 n row at Producer refl)

  -- with pools whose owners a history shows
  module _ (history : History) (pools : List PoolRow) (net serial blk : Crew) (pooled : ArePooled rows pools (map part_of actors)) (owners : (place : PoolPlace) → IsPlaced rows place (map part_of actors) → HasPools pools place → HasOwnersBeside history rows place (map part_of actors)) where
    pub seated_fit : IsFitted (begun history rows pools actors net serial blk)
    seated_fit = record {
      scene_is = refl;
      names_are = λ calm. refl;
      peopled = λ n row at r. subst (λ m. owner_of row r < m) (sym (length-map actors part_of)) (s.peers n row at r);
      seated = end_given;
      ends = seat_given;
      split = two_owners;
      wired = s.wired;
      pooled = pooled;
      owners = owners;
      numbered = s.numbered;
      places = s.places;
    }

-- the start state goes on from a history in which nothing happened
pub start_goes : (rows : List QueueRow) (pools : List PoolRow) (actors : List Actor) (net serial blk : Crew) → AreSeated rows actors → ArePooled rows pools (map part_of actors) → GoesOn (begun (start_history rows) rows pools actors net serial blk) (starts rows) actors
start_goes rows pools actors net serial blk s pooled =
    let start : Setting = begun (start_history rows) rows pools actors net serial blk in
    let fitted : IsFitted start = seated_fit rows actors s (start_history rows) pools net serial blk pooled (λ place placed has. owners_beside rows (map part_of actors) place pools placed has (end_given rows actors s) (seat_given rows actors s)) in record {
      fitted = fitted;
      before = record { bells_hold = starts_hold (hostiles (map part_of actors)) rows; flows = starts_flow rows };
      holds = start_holds rows pools actors (fitted_place start fitted) (seated_start rows actors s);
    }
