use Rattle.std.proofs.Common.{◌≡◌, true, ◌≤◌}
use Rattle.wire_core.specs.Ends.{is_busy_or_off, is_free_or_put}
use Rattle.ring_rows.proofs.wild.send_wildly.Given as goal

abbrev pub invariant-loop-look : goal.invariant-loop-look
invariant-loop-look l = (l.producer.ring ≡ l.initial.producer.ring) × (is_busy_or_off l.producer.knows.waiter ≡ true) × (is_free_or_put l.producer.knows.ringer ≡ true) × (l.producer.knows.kind ≡ l.initial.producer.knows.kind) × (l.sent ≤ l.count)
