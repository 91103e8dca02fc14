use Rattle.std.proofs.Common.{◌≡◌, ◌≤◌}
use Rattle.line_text.specs.Lists.{per_client}
use Rattle.switched_law.specs.SwitchClass.Starting.{new_page}
use Rattle.switched_law.proofs.switch_class.actors.pages.Given as goal

abbrev pub invariant-loop-no : goal.invariant-loop-no
invariant-loop-no l = (l.pages.items ≡ per_client l.no (new_page l.pool)) × (l.no ≤ 4)
