use Rattle.std.proofs.Common.{ℕ, ◌<◌}
use Rattle.std.specs.List.{slice_get}
use Rattle.std.specs.Option.{IsSomeAnd}
use Rattle.sdf_plan.specs.ClassTable.Shown.{role_shown}
use Rattle.sdf_check.specs.ClassRules.{Plays}
use Rattle.sdf_check.proofs.rows.one_role_is_wrong.Given as goal

abbrev pub invariant-loop-role : goal.invariant-loop-role
invariant-loop-role l = (k : ℕ) → k < l.role-index → IsSomeAnd (slice_get l.roles k) (λ r. ¬ Plays l.judge.plan.now (role_shown r)) → ⊥
