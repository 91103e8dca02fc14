use Rattle.std.proofs.Common.{◌≡◌, ◌<◌, ℕ, Some, true, slice_get}
use Rattle.actor_set.specs.Actors.{actor_rests}
use Rattle.order_law.specs.ActorParts.Given.{Kept}
use Rattle.pd_runner.proofs.face.all_rest.Given as goal

abbrev pub invariant-loop-part : goal.invariant-loop-part
invariant-loop-part l = (n : ℕ) (k : Kept) → n < l.part-index → slice_get l.parts n ≡ Some k → actor_rests k.0.actor ≡ true
