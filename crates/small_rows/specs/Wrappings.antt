-- The actors of the plans, each in a type of its own, and what they mean to the player.
use Rattle.std.specs.Prelude.{◌≡◌, ℕ, false, Some, List, [], map, slice_get}
use Rattle.turn_kit.specs.Dropping.{dropping}
use Rattle.turn_kit.specs.Turns.{Round}
use Rattle.play_core.specs.Manners.{Calm}
use Rattle.actor_set.specs.Parts.{Part}
use Rattle.actor_set.specs.Actors.{FitsActor, ActorStandsFor, actor_round, part_of}
use Rattle.actor_set.specs.Laws.Kinds.{manner_of, drop_seats}
use Rattle.actor_set.specs.declared.actor.Actor.{Actor}
use Rattle.small_system.specs.Meanings.{Means}
use Rattle.small_rows.specs.declared.wrapping.Wrapped.{Wrapped}

-- an actor's ends where it waits at each
abbrev pub waiting_round : Round → Round
waiting_round r = record r { posts = map (dropping false) r.posts }

-- an actor drops nothing
abbrev pub IsWaiting : Actor → Type 0
IsWaiting x = drop_seats (part_of x) ≡ []

-- none of these actors drops anything
abbrev pub AreWaiting : List Actor → Type 0
AreWaiting actors = (k : ℕ) (x : Actor) → slice_get actors k ≡ Some x → IsWaiting x

-- what an actor in its wrapping means, which isn't hostile and drops nothing
abbrev pub wrapped_means : Means Wrapped
wrapped_means = record {
  Part = Part;
  part = λ x. part_of x.actor;
  round = λ x. waiting_round (actor_round x.actor);
  StandsFor = λ x p. ActorStandsFor x.actor p;
  Fits = λ ends x. FitsActor ends x.actor × (manner_of (part_of x.actor) ≡ Calm)
      × IsWaiting x.actor;
}

-- these are these actors in their wrappings
abbrev pub AreWrapped : List Actor → List Wrapped → Type 0
AreWrapped actors wrapped = map (λ (x : Wrapped). x.actor) wrapped ≡ actors
