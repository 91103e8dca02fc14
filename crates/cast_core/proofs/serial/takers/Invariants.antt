use Rattle.std.proofs.Common.{◌≡◌, Bool, map, take}
use Rattle.wire_core.specs.declared.names.QueueId.{QueueId}
use Rattle.actor_set.specs.Actors.{numbers}
use Rattle.cast_core.specs.Sources.{every_second, drops_of}
use Rattle.cast_core.proofs.serial.takers.Given as goal

abbrev pub invariant-loop-k : goal.invariant-loop-k
invariant-loop-k l =
    (numbers (map (λ (t : QueueId × Bool). t.0) l.takers.items) ≡ every_second l.first l.k)
    × (map (λ (t : QueueId × Bool). t.1) l.takers.items ≡ drops_of (take l.k l.clients))
