use Rattle.std.proofs.Common.{◌≡◌, ◌++◌, drop}
use Rattle.export_text.specs.Numbers.{grouped}
use Rattle.export_text.proofs.number.push_grouped.Given as goal

abbrev pub invariant-loop-at : goal.invariant-loop-at
invariant-loop-at l = l.to ++ grouped (drop l.at l.digits) ≡ l.fn.to ++ grouped l.digits
