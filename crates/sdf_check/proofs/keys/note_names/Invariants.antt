use Rattle.std.proofs.Common.{◌≡◌, ◌↔◌, ◌++◌, take, IsTrue}
use Rattle.sdf_check.specs.ClassRules.{RepeatsName}
use Rattle.sdf_check.specs.Lookups.{FindsPlaces, names_shown}
use Rattle.sdf_check.proofs.keys.note_names.Given as goal

abbrev pub invariant-loop-name : goal.invariant-loop-name
invariant-loop-name l =
    FindsPlaces l.fn.places (names_shown l.fn.all.items)
    → FindsPlaces l.places (names_shown l.all.items)
    × (names_shown l.all.items ≡ names_shown l.fn.all.items ++ names_shown (take l.name-index l.names))
    × (IsTrue l.again ↔ RepeatsName (names_shown l.fn.all.items) (names_shown (take l.name-index l.names)))
