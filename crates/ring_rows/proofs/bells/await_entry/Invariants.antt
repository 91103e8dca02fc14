use Rattle.std.proofs.Common.{◌≡◌}
use Rattle.ring_rows.proofs.bells.await_entry.Given as goal

abbrev pub invariant-loop-look : goal.invariant-loop-look
invariant-loop-look l = (l.consumer.ring ≡ l.initial.consumer.ring) × (l.consumer.knows.ringer ≡ l.initial.consumer.knows.ringer)
