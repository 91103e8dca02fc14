use Rattle.std.proofs.Common.{ℕ, ◌<◌}
use Rattle.std.specs.Ordering.{nat_cmp}
use Rattle.std.specs.BTreeMap.{get}
use Rattle.sdf_check.specs.Rules.{MeetsEarlier}
use Rattle.sdf_check.specs.Sweeps.{Holds}
use Rattle.sdf_check.proofs.sweep.first_meeting.Given as goal

abbrev pub invariant-loop-at : goal.invariant-loop-at
invariant-loop-at l = Holds (get nat_cmp l.kept) l.ranges l.at × ((k : ℕ) → k < l.at → MeetsEarlier l.ranges k → ⊥)
