use Rattle.std.proofs.Common.{◌≡◌, replicate, false}
use Rattle.net_virt_rx.proofs.sharer.nobody.Given as goal

abbrev pub invariant-loop : goal.invariant-loop
invariant-loop l = l.out.items ≡ replicate l.counter (replicate l.clients false)
