use Rattle.std.proofs.Common.{◌≡◌, ℕ, ◌<◌, Some}
use Rattle.std.specs.List.{slice_get}
use Rattle.sdf_plan.specs.declared.place.Place.{Place}
use Rattle.sdf_check.specs.Valid.{broken}
use Rattle.sdf_check.proofs.judging.first_broken.Given as goal

abbrev pub invariant-loop-place : goal.invariant-loop-place
invariant-loop-place l = (k : ℕ) (p : Place) → k < l.place-index → slice_get l.places k ≡ Some p → broken l.judge.plan.now l.rule p → ⊥
