-- Lists of actors apart, one of which is given an end more.
use Rattle.std.specs.Prelude.{◌≡◌, ◌==◌, ◌++◌, if◌then◌else◌, ℕ, Some, None, List, [], ◌∷◌, Vec}
use Rattle.std.specs.Prelude.{length, slice_get}
use Rattle.std.specs.Global.{Global}
use Rattle.wire_core.specs.declared.names.QueueId.{QueueId}
use Rattle.spsc_queue.specs.Known.Ends.{EndIs}
use Rattle.actor_set.specs.declared.actor.Actor.{Actor}
use Rattle.order_law.specs.declared.actor_parts.worker.Worker.{Worker}
use Rattle.order_law.specs.ActorParts.Parting.{Apart}
use Rattle.order_law.specs.ActorParts.Opening.{IsForgotten}

-- an actor with its ends, as a program keeps it
abbrev pub Kept : Type 0
Kept = Worker × Vec (QueueId × EndIs) Global × Vec (QueueId × EndIs) Global

-- what contracts say of it
abbrev pub apart_of : Kept → Apart
apart_of p = record {
  actor = p.0.actor;
  wanted = p.0.wanted;
  producers = p.1.items;
  consumers = p.2.items;
}

-- an actor that forgot its looks, with no end and no step yet
pub record IsAlone (x : Actor) (p : Kept) : Type 0 where
  pub forgotten : IsForgotten x p.0.actor
  pub fine : p.0.wanted ≡ None
  pub no_producer : p.1.items ≡ []
  pub no_consumer : p.2.items ≡ []

-- one end more behind those of actor k, and none for actor j
abbrev pub given : (k j : ℕ) → QueueId × EndIs → List (QueueId × EndIs)
given k j x = if k == j then x ∷ [] else []

-- actor k has a producing end more, and nothing else changed
pub record GivesProducer (k : ℕ) (x : QueueId × EndIs) (old new : List Kept) : Type 0 where
  pub many : length new ≡ length old
  pub each : (j : ℕ) (q : Kept) → slice_get new j ≡ Some q → (p : Kept)
      × (slice_get old j ≡ Some p) × (q.0 ≡ p.0) × (q.1.items ≡ p.1.items ++ given k j x)
      × (q.2.items ≡ p.2.items)

-- likewise a consuming end
pub record GivesConsumer (k : ℕ) (x : QueueId × EndIs) (old new : List Kept) : Type 0 where
  pub many : length new ≡ length old
  pub each : (j : ℕ) (q : Kept) → slice_get new j ≡ Some q → (p : Kept)
      × (slice_get old j ≡ Some p) × (q.0 ≡ p.0) × (q.1.items ≡ p.1.items)
      × (q.2.items ≡ p.2.items ++ given k j x)
