-- What a thread owed is what it gave.
use Rattle.std.proofs.Common.{◌≤◌, ℕ, List, sym, subst}
use Rattle.spsc_queue.specs.Known.Ends.{RingIs}
use Rattle.pd_runner.specs.declared.part.Part.{Part}
use Rattle.pd_runner.specs.declared.part.Ran.{Ran}
use Rattle.pd_runner.specs.declared.run.Begun.{Begun}
use Rattle.pd_runner.specs.declared.run.Begun.TheVariants.{Started, Back}
use Rattle.pd_runner.specs.Running.{Came}
use Rattle.pd_runner.specs.Begun.{BegunOf, JoinedOf, RanOf}

pub joined : (rings : List RingIs) (limit : ℕ) (old : Part) (b : Begun) (r : Ran) → BegunOf rings limit old b → JoinedOf b r → RanOf rings limit old r
joined rings limit old (Started handle) r h k = subst (λ (z : (List RingIs) × Part × ℕ). Came z.0 z.1 r.made r.part × (r.made ≤ z.2)) (λ i. (h.0 i, h.1 i, h.2 i)) k
joined rings limit old (Back back) r h k = subst (λ (z : Ran). RanOf rings limit old z) (sym k) h
