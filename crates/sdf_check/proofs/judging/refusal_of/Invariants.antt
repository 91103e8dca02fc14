use Rattle.std.proofs.Common.{ℕ, ◌<◌, ◌≤◌}
use Rattle.sdf_plan.specs.Places.{walk, IsKept}
use Rattle.sdf_plan.specs.Elements.{outline_of}
use Rattle.sdf_check.specs.Valid.{broken}
use Rattle.sdf_check.proofs.judging.refusal_of.Given as goal

abbrev pub invariant-loop-rule : goal.invariant-loop-rule
invariant-loop-rule l = (n : ℕ) → 5 ≤ n → n < l.rule → IsKept (broken l.plan n) (walk (outline_of l.plan))
