use Rattle.std.proofs.Common.{◌≡◌, map, take}
use Rattle.cast_core.specs.Making.{tx_range}
use Rattle.cast_core.proofs.pools.ranges.Given as goal

abbrev pub invariant-loop-client : goal.invariant-loop-client
invariant-loop-client l = l.ranges ≡ map tx_range (take l.client-index l.clients)
