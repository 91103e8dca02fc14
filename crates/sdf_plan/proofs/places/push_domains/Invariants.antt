use Rattle.std.proofs.Common.{◌≡◌, ◌++◌, map, drop}
use Rattle.sdf_plan.specs.Places.{domain_places}
use Rattle.sdf_plan.specs.Elements.{domain_parts}
use Rattle.sdf_plan.proofs.places.push_domains.Given as goal

abbrev pub invariant-loop-at : goal.invariant-loop-at
invariant-loop-at l =
    l.places.items ++ domain_places l.at (map domain_parts (drop l.at l.domains)) ≡ l.initial.places.items ++ domain_places 0 (map domain_parts l.domains)
