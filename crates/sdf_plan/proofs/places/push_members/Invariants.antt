use Rattle.std.proofs.Common.{◌≡◌, ◌++◌, ◌-◌}
use Rattle.sdf_plan.specs.Places.{places_from}
use Rattle.sdf_plan.specs.Walks.{member}
use Rattle.sdf_plan.proofs.places.push_members.Given as goal

abbrev pub invariant-loop-number : goal.invariant-loop-number
invariant-loop-number l =
    l.places.items ++ places_from (member l.sort) l.number (l.count - l.number) ≡ l.initial.places.items ++ places_from (member l.sort) 0 l.count
