use Rattle.std.proofs.Common.{◌≡◌}
use Rattle.ring_rows.proofs.bells.await_room.Given as goal

abbrev pub invariant-loop-look : goal.invariant-loop-look
invariant-loop-look l = (l.producer.ring ≡ l.initial.producer.ring) × (l.producer.knows.ringer ≡ l.initial.producer.knows.ringer) × (l.producer.knows.kind ≡ l.initial.producer.knows.kind)
