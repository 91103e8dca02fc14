use Rattle.std.proofs.Common.{◌≡◌}
use Rattle.actor_set.specs.Actors.{numbers}
use Rattle.cast_core.specs.Sources.{every_second}
use Rattle.cast_core.proofs.serial.every_second.Given as goal

abbrev pub invariant-loop-k : goal.invariant-loop-k
invariant-loop-k l = numbers l.queues.items ≡ every_second l.first l.k
