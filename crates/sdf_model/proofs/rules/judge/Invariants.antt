use Rattle.std.proofs.Common.{◌≡◌, ℕ, ◌≤◌, ◌<◌, map, None}
use Rattle.sdf_model.specs.Elements.{place_and_members, first_broken}
use Rattle.sdf_model.proofs.rules.judge.Given as goal

abbrev pub invariant-loop-rule : goal.invariant-loop-rule
invariant-loop-rule l = (n : ℕ) → 2 ≤ n → n < l.rule → first_broken l.version n (map place_and_members l.elements) ≡ None
