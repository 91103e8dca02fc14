use Rattle.std.proofs.Common.{ℕ, ◌<◌}
use Rattle.std.specs.List.{slice_get}
use Rattle.std.specs.Option.{IsSomeAnd}
use Rattle.sdf_check.specs.ClassRules.{IsGranted}
use Rattle.sdf_check.proofs.rows.one_lacks_right.Given as goal

abbrev pub invariant-loop-grant : goal.invariant-loop-grant
invariant-loop-grant l = (k : ℕ) → k < l.grant-index → IsSomeAnd (slice_get l.must k) (λ g. ¬ IsGranted l.judge.plan.now (g.domain.now, l.region, g.writes)) → ⊥
