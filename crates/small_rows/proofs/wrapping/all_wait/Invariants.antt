use Rattle.std.proofs.Common.{◌≡◌, ◌<◌, ℕ, Some, slice_get}
use Rattle.actor_set.specs.declared.actor.Actor.{Actor}
use Rattle.small_rows.specs.Wrappings.{IsWaiting}
use Rattle.small_rows.proofs.wrapping.all_wait.Given as goal

abbrev pub invariant-loop-actor : goal.invariant-loop-actor
invariant-loop-actor l =
    (k : ℕ) (x : Actor) → k < l.actor-index → slice_get l.actors k ≡ Some x → IsWaiting x
