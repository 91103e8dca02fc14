use Rattle.std.proofs.Common.{◌≡◌, ◌<◌, ◌≤◌, ℕ, Bool, true, false, List, length, refl, sym, ap, ◌∙◌, arith}
use Rattle.std.specs.Prelude.{◌==◌}
use Rattle.system_core.specs.Shows.{Shown}
use Rattle.system_core.specs.Plays.{runnable_now}
use Rattle.system_core.specs.PlanPlays.{HasEnded}
use Rattle.system_core.specs.Reports.{report_of}
use Rattle.system_core.specs.declared.system.Ending.{Ending}
use Rattle.system_core.specs.declared.system.Ending.TheVariants as Ends
use Rattle.decision_core.specs.declared.status.Status.{Status}
use Rattle.decision_core.specs.declared.status.Status.TheVariants as Ended
use Rattle.sddf_top.specs.Shown.{ending_of}

-- a play that isn't quiet made all its steps
pub spent-whole : (limit : ℕ) (s : Shown) (e : Ending) → HasEnded limit s e → (report_of s).quiet ≡ false → length s.journal ≡ limit
spent-whole limit s Ends.Quiet h q = let f : (length (runnable_now s) == 0) ≡ true = ap (λ (xs : List ℕ). length xs == 0) h in let g = sym q ∙ f in cc
spent-whole limit s Ends.Spent h q = h.0

-- a play that may make as many steps as its budget gets quiet
pub quiet-bounded : (quiet : Bool) (steps made limit budget : ℕ) (status : Status) → status ≡ ending_of quiet steps → (quiet ≡ false → made ≡ limit) → made < budget → budget ≤ limit → status ≡ Ended.Ok
quiet-bounded true steps made limit budget status is spent short enough = is
quiet-bounded false steps made limit budget status is spent short enough = let e = spent refl in absurd (omega (arith, e, short, enough))
