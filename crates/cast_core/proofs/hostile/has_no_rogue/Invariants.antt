use Rattle.std.proofs.Common.{ℕ, ◌<◌}
use Rattle.cast_core.proofs.HostileLemmas.{AreCalmAt}
use Rattle.cast_core.proofs.hostile.has_no_rogue.Given as goal

abbrev pub invariant-loop-client : goal.invariant-loop-client
invariant-loop-client l = (c : ℕ) → c < l.client → AreCalmAt l.plan c
