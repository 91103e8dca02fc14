use Rattle.std.proofs.Common.{◌≡◌}
use Rattle.spsc_queue.specs.Steps.{known_end}
use Rattle.ring_rows.proofs.wild.scribble.Given as goal

abbrev pub invariant-loop-round : goal.invariant-loop-round
invariant-loop-round l = (l.producer.ring ≡ l.initial.producer.ring) × (known_end l.producer.knows ≡ known_end l.initial.producer.knows)
