use Rattle.std.proofs.Common.{◌≡◌, true, ◌≤◌}
use Rattle.wire_core.specs.Ends.{is_busy_or_off, is_free_or_put}
use Rattle.ring_rows.proofs.hand.take.Given as goal

abbrev pub invariant-loop-look : goal.invariant-loop-look
invariant-loop-look l = (l.consumer.ring ≡ l.initial.consumer.ring) × (is_busy_or_off l.consumer.knows.waiter ≡ true) × (is_free_or_put l.consumer.knows.ringer ≡ true) × (l.taken ≤ l.count)
