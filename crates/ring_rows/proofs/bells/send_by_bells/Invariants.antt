use Rattle.std.proofs.Common.{◌≡◌, true, ◌≤◌}
use Rattle.wire_core.specs.declared.names.Ringer.TheVariants as Rung
use Rattle.wire_core.specs.Ends.{is_busy_or_off}
use Rattle.ring_rows.proofs.bells.send_by_bells.Given as goal

abbrev pub invariant-loop-round : goal.invariant-loop-round
invariant-loop-round l = (l.producer.ring ≡ l.initial.producer.ring) × (is_busy_or_off l.producer.knows.waiter ≡ true) × (l.producer.knows.ringer ≡ Rung.Free) × (l.producer.knows.kind ≡ l.initial.producer.knows.kind) × (l.sent ≤ l.count)
