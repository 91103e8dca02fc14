use Rattle.std.proofs.Common.{◌≡◌, ◌++◌, map, drop}
use Rattle.sdf_plan.specs.Places.{channel_places}
use Rattle.sdf_plan.specs.Elements.{channel_parts}
use Rattle.sdf_plan.proofs.places.push_channels.Given as goal

abbrev pub invariant-loop-at : goal.invariant-loop-at
invariant-loop-at l =
    l.places.items ++ channel_places l.at (map channel_parts (drop l.at l.channels)) ≡ l.initial.places.items ++ channel_places 0 (map channel_parts l.channels)
