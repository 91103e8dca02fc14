-- What is left of actors apart and their rings, after the rings came to their ends.
use Rattle.std.specs.Prelude.{◌≡◌, ◌≤◌, ◌++◌, ℕ, Some, List, All, length, map, nat_lt, slice_get}
use Rattle.std.specs.Prelude.{false}
use Rattle.cargo_core.specs.Items.{kind_of}
use Rattle.wire_core.specs.declared.names.QueueRow.{QueueRow}
use Rattle.wire_core.specs.Bells.{BellHolds}
use Rattle.wire_core.specs.Ends.{Role, Consumer, Producer}
use Rattle.wire_core.specs.Journal.{owner_of}
use Rattle.spsc_queue.specs.Known.Ends.{EndIs, RingIs, EndedIs}
use Rattle.spsc_queue.specs.Rule.{flag_of, pending_of, forward_bell, backward_bell}
use Rattle.spsc_queue.specs.Steps.{sent_home}
use Rattle.order_law.specs.ActorParts.Parting.{Apart, ends_at, end_in}
use Rattle.actor_set.specs.declared.actor.Actor.{Actor}

-- what both ends knew of a ring is kept, with what was put and not taken, in order, and when; all of
-- it is of the ring's kind. So are both bells, with their waiters and ringers as the two ends left
-- them; on a ring that isn't wild so are the words, and the bell law holds of both
pub record HasEnded (ring : RingIs) (p c : EndIs) (e : EndedIs) : Type 0 where
  pub capacity : e.capacity ≡ ring.id.slots
  pub producer : e.producer ≡ sent_home p.knows
  pub consumer : e.consumer ≡ sent_home c.knows
  pub rest : p.knows.entries ≡ c.knows.entries ++ e.left
  pub few : length e.left ≤ ring.id.slots
  pub later : List ℕ
  pub times : p.knows.times ≡ c.knows.times ++ later
  pub timed : length later ≡ length e.left
  pub producer_kind : p.knows.kind ≡ ring.kind
  pub consumer_kind : c.knows.kind ≡ ring.kind
  pub kinds : All (λ x. kind_of x.0 ≡ ring.kind) p.knows.entries
  pub producer_sort : p.knows.wild ≡ ring.wild
  pub consumer_sort : c.knows.wild ≡ ring.wild
  pub forward : e.forward ≡ forward_bell e.forward.flag e.forward.pending p.knows c.knows
  pub backward : e.backward ≡ backward_bell e.backward.flag e.backward.pending p.knows c.knows
  pub told : ring.wild ≡ false → (e.forward
      ≡ forward_bell (flag_of c.knows p.knows) (pending_of c.knows p.knows) p.knows c.knows)
      × (e.backward
      ≡ backward_bell (flag_of p.knows c.knows) (pending_of p.knows c.knows) p.knows c.knows)
  pub bells : ring.wild ≡ false
      → BellHolds e.forward (nat_lt 0 (length e.left)) (length p.knows.entries)
      × BellHolds e.backward (nat_lt (length e.left) ring.id.slots) (length c.knows.entries)

-- the end of a queue that its owner by the row had
pub record OwnEnd (parts : List Apart) (row : QueueRow) (r : Role) (n : ℕ) (e : EndIs)
    : Type 0 where
  pub owner : Apart
  pub there : slice_get parts (owner_of row r) ≡ Some owner
  pub end : end_in (ends_at owner r) n ≡ Some e

-- the actors, and of each row's queue what is kept of its ring
pub record AreFinished (rows : List QueueRow) (rings : List RingIs) (parts : List Apart)
    (actors : List Actor) (ended : List EndedIs) : Type 0 where
  pub actors_are : actors ≡ map (λ p. p.actor) parts
  pub many : length ended ≡ length rings
  pub each : (n : ℕ) (row : QueueRow) (ring : RingIs) (e : EndedIs) → slice_get rows n ≡ Some row
      → slice_get rings n ≡ Some ring → slice_get ended n ≡ Some e → (p c : EndIs)
      → OwnEnd parts row Producer n p → OwnEnd parts row Consumer n c → HasEnded ring p c e
