use Rattle.std.proofs.Common.{◌≡◌, ◌^◌, ◌≤◌, max, drop, fold}
use Rattle.region_layout.specs.Bases.{floor_of, given_end}
use Rattle.region_layout.proofs.bases.floor_of.Given as goal

abbrev pub invariant-loop-region : goal.invariant-loop-region
invariant-loop-region l = (fold (λ low region. max low (given_end region)) l.floor (drop l.region-index l.regions) ≡ floor_of l.regions) × (l.floor ≤ 2 ^ 40)
