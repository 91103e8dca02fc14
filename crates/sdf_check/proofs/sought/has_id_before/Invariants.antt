use Rattle.std.proofs.Common.{◌≡◌, ℕ, ◌<◌, map, Some}
use Rattle.std.specs.List.{slice_get}
use Rattle.sdf_plan.specs.declared.plan.Irq.{Irq}
use Rattle.sdf_check.proofs.sought.has_id_before.Given as goal

abbrev pub invariant-loop-at : goal.invariant-loop-at
invariant-loop-at l = (k : ℕ) → k < l.at → slice_get (map (λ (i : Irq). i.id) l.irqs) k ≡ Some l.id → ⊥
