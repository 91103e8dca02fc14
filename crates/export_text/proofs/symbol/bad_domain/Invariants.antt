use Rattle.std.proofs.Common.{◌≡◌, drop}
use Rattle.export_text.specs.Symbols.{bad_domain}
use Rattle.export_text.proofs.symbol.bad_domain.Given as goal

abbrev pub invariant-loop-at : goal.invariant-loop-at
invariant-loop-at l = bad_domain 0 l.domains ≡ bad_domain l.at (drop l.at l.domains)
