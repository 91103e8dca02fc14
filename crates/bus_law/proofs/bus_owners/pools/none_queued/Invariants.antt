use Rattle.std.proofs.Common.{◌≡◌, false, replicate}
use Rattle.bus_law.proofs.bus_owners.pools.none_queued.Given as goal

abbrev pub invariant-loop-place : goal.invariant-loop-place
invariant-loop-place l = l.queued.items ≡ replicate l.place false
