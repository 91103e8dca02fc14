use Rattle.std.proofs.Common.{◌≡◌, drop}
use Rattle.export_text.specs.Symbols.{bad_map}
use Rattle.export_text.proofs.symbol.bad_map.Given as goal

abbrev pub invariant-loop-at : goal.invariant-loop-at
invariant-loop-at l = bad_map l.domain 0 l.maps ≡ bad_map l.domain l.at (drop l.at l.maps)
