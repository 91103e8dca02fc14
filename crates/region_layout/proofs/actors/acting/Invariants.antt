use Rattle.std.proofs.Common.{◌≡◌, ◌++◌, drop, map, filter}
use Rattle.sdf_plan.specs.declared.plan.Domain.{Domain}
use Rattle.region_layout.specs.Rows.{acts}
use Rattle.region_layout.proofs.actors.acting.Given as goal

abbrev pub invariant-loop-domain : goal.invariant-loop-domain
invariant-loop-domain l = l.names ++ map (λ (d : Domain). d.name) (filter acts (drop l.domain-index l.domains)) ≡ map (λ (d : Domain). d.name) (filter acts l.domains)
