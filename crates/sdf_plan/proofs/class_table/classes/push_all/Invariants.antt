use Rattle.std.proofs.Common.{◌≡◌, ◌++◌, map, take}
use Rattle.sdf_plan.specs.ClassTable.Numbers.{seen}
use Rattle.sdf_plan.specs.ClassTable.Shown.{element_shown}
use Rattle.sdf_plan.proofs.class_table.classes.push_all.Given as goal

abbrev pub invariant-loop-element : goal.invariant-loop-element
invariant-loop-element l = map seen l.all.items ≡ map seen l.fn.all.items ++ map element_shown (take l.element-index l.elements)
