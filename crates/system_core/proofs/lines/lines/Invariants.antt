use Rattle.std.proofs.Common.{◌≡◌, take}
use Rattle.cast_law.specs.PoolLines.PoolLines.{counted_lines}
use Rattle.cast_law.specs.Pools.Holders.{holders_of}
use Rattle.system_core.proofs.lines.lines.Given as goal

abbrev pub invariant-loop-number : goal.invariant-loop-number
invariant-loop-number l = l.lines ≡ counted_lines l.world (holders_of l.actors) 0 (take l.number l.pools)
