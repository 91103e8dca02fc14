use Rattle.std.proofs.Common.{◌≡◌, map, take}
use Rattle.std.specs.List.{flat_map}
use Rattle.sdf_plan.specs.ClassTable.Numbers.{seen}
use Rattle.sdf_check.specs.Keys.{AreFlags, names_of}
use Rattle.sdf_check.specs.Lookups.{FindsPlaces, names_shown}
use Rattle.sdf_check.proofs.keys.keys_of.Given as goal

abbrev pub invariant-loop-at : goal.invariant-loop-at
invariant-loop-at l =
    FindsPlaces l.places (names_shown l.all.items)
    × (names_shown l.all.items ≡ flat_map (names_of l.named) (take l.at (map seen l.elements.items)))
    × AreFlags (names_of l.named) (map seen l.elements.items) l.at l.again.items
