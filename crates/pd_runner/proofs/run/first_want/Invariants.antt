use Rattle.std.proofs.Common.{◌≡◌, ◌<◌, ℕ, Some, slice_get}
use Rattle.pd_runner.specs.declared.part.Ran.{Ran}
use Rattle.pd_runner.specs.Running.{HasNoWant}
use Rattle.pd_runner.proofs.run.first_want.Given as goal

abbrev pub invariant-loop-ran : goal.invariant-loop-ran
invariant-loop-ran l = (n : ℕ) (r : Ran) → n < l.ran-index → slice_get l.rans n ≡ Some r → HasNoWant r.part
