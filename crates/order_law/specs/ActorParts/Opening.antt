-- How actors are set apart at the start: each end as its ring was opened.
use Rattle.std.specs.Prelude.{◌≡◌, ◌==◌, ◌+◌, ◌++◌, if◌then◌else◌, ℕ, Bool, List, [], ◌∷◌}
use Rattle.cargo_core.specs.declared.item.QueueKind.{QueueKind}
use Rattle.wire_core.specs.declared.names.QueueId.{QueueId}
use Rattle.wire_core.specs.declared.names.QueueRow.{QueueRow}
use Rattle.wire_core.specs.Ends.{Role, Consumer, Producer, End}
use Rattle.wire_core.specs.Journal.{owner_of}
use Rattle.wire_core.specs.Lists.{Passed}
use Rattle.spsc_queue.specs.declared.view.Half.{Half}
use Rattle.spsc_queue.specs.Known.Ends.{EndIs, RingIs}
use Rattle.spsc_queue.specs.Rule.{first_producer, first_consumer}
use Rattle.actor_set.specs.Actors.{FitsActor, ActorStandsFor, Forgot, part_anew, part_of}
use Rattle.actor_set.specs.declared.actor.Actor.{Actor}

-- what the end of a new ring knows, which is wild or isn't
abbrev pub first_half : Role → QueueKind → (wild : Bool) → Half
first_half Consumer kind wild = record (first_consumer kind) { wild = wild }
first_half Producer kind wild = record (first_producer kind) { wild = wild }

-- the end that a new ring for a row gives an actor, if the row names that one
abbrev pub opened_at : Role → (actor queue : ℕ) → QueueRow × RingIs → List (QueueId × EndIs)
opened_at r k n x = if owner_of x.0 r == k
    then (
      record { 0 = n },
      record {
        ring = x.1.id;
        knows = first_half r x.0.kind x.1.wild;
      },
    ) ∷ [] else []

-- an actor's ends of one role, where a ring was opened for each of these rows, from a number on
abbrev pub opened_from : Role → (actor queue : ℕ) → List (QueueRow × RingIs)
    → List (QueueId × EndIs)
opened_from r k n [] = []
opened_from r k n (x ∷ xs) = opened_at r k n x ++ opened_from r k (n + 1) xs

-- the same actor without its last looks: of the same part, it fits and stands for what it did
pub record IsForgotten (x y : Actor) : Type 0 where
  pub forgot : Forgot x y
  pub part : part_of y ≡ part_anew x
  pub fits : (ends : Role → ℕ → End) → FitsActor ends x → FitsActor ends y
  pub stands : (passed : Passed) → ActorStandsFor x passed → ActorStandsFor y passed
