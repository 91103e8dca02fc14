-- Actors that have gone apart, and what passed at rings that came to their end.
use Rattle.std.specs.Prelude.{◌≡◌, ◌+◌, ℕ, Some, List, [], length, map, slice_get}
use Rattle.std.specs.Option.{option_map_or}
use Rattle.wire_core.specs.declared.names.Event.{Event}
use Rattle.wire_core.specs.declared.names.PoolRow.{PoolRow}
use Rattle.wire_core.specs.declared.names.QueueRow.{QueueRow}
use Rattle.wire_core.specs.Deeds.{Cargo}
use Rattle.wire_core.specs.Ends.{Role, Consumer, Producer}
use Rattle.wire_core.specs.Fates.{noes_at}
use Rattle.wire_core.specs.Journal.{owner_of}
use Rattle.wire_core.specs.Lists.{Passed}
use Rattle.spsc_queue.specs.Known.Ends.{RingIs, EndedIs}
use Rattle.play_core.specs.Still.{IsPeopled}
use Rattle.actor_set.specs.Actors.{part_of}
use Rattle.actor_set.specs.declared.actor.Actor.{Actor}
use Rattle.cast_law.specs.Pools.Places.{IsInPlace}
use Rattle.order_law.specs.Orders.{noes_known}
use Rattle.order_law.specs.ActorParts.Parting.{Apart, AreApart, end_in, ends_at}
use Rattle.order_law.specs.ActorParts.Opened.{HaveNothing}
use Rattle.order_law.specs.ActorParts.Going.{HasGone}

-- what was put to a queue and not taken, by what is kept of its ended ring
abbrev pub left_at : List EndedIs → ℕ → List Cargo
left_at ended n = option_map_or (λ (e : EndedIs). e.left) (slice_get ended n) []

-- what passed at all queues, by what is kept of their ended rings, where these calls were made
abbrev pub passed_of : List EndedIs → List Event → Passed
passed_of ended calls = record {
  taken = λ n. option_map_or (λ (e : EndedIs). e.consumer.entries) (slice_get ended n) [];
  sent = λ n. option_map_or (λ (e : EndedIs). e.producer.entries) (slice_get ended n) [];
  calls = calls;
}

-- how often an end of a queue looked in vain, by what is kept of its ended ring
abbrev pub noes_left : List EndedIs → Role → ℕ → ℕ
noes_left ended Consumer n = option_map_or (λ (e : EndedIs). e.consumer.noes) (slice_get ended n) 0
noes_left ended Producer n = option_map_or (λ (e : EndedIs). e.producer.noes) (slice_get ended n) 0

-- how often the end of a queue did that its owner by the rows has
abbrev pub noes_apart : List QueueRow → List Apart → Role → ℕ → ℕ
noes_apart rows parts r n = option_map_or (λ (row : QueueRow).
    option_map_or (λ (p : Apart). noes_known (end_in (ends_at p r) n))
    (slice_get parts (owner_of row r)) 0) (slice_get rows n) 0

-- by these calls each end looked in vain so often more
abbrev pub HaveLooked : List QueueRow → List Apart → List EndedIs → List Event → Type 0
HaveLooked rows olds ended calls = (r : Role) (n : ℕ)
    → noes_left ended r n ≡ noes_apart rows olds r n + noes_at r n calls

-- the actors without their ends
abbrev pub actors_apart : List Apart → List Actor
actors_apart parts = map (λ (p : Apart). p.actor) parts

-- the actors of a cast in place stood apart over rings, and nothing passed there; each is now what
-- it became by the calls that it made at its ends
pub record HaveGone (rows : List QueueRow) (rings : List RingIs) (olds news : List Apart)
    : Type 0 where
  pub pools : List PoolRow
  pub in_place : IsInPlace rows pools (map part_of (actors_apart olds))
  -- no actor has both ends of a queue
  pub split : (n : ℕ) (row : QueueRow) → slice_get rows n ≡ Some row
      → row.producer.0 ≡ row.consumer.0 → ⊥
  pub peopled : IsPeopled rows (length olds)
  pub stood : AreApart rows rings olds
  pub nothing : HaveNothing olds
  pub many : length news ≡ length olds
  pub stand : AreApart rows rings news
  pub gone : (k : ℕ) (p q : Apart) → slice_get olds k ≡ Some p → slice_get news k ≡ Some q
      → HasGone rings p q
