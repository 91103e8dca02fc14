use Rattle.std.proofs.Common.{◌≡◌, replicate, None}
use Rattle.cargo_core.proofs.lent.Lent.new.Given as goal

abbrev pub invariant-loop : goal.invariant-loop
invariant-loop l = l.loans.items ≡ replicate l.counter None
