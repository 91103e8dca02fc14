use Rattle.std.proofs.Common.{◌≡◌, true, ◌≤◌}
use Rattle.wire_core.specs.declared.names.Ringer.TheVariants as Rung
use Rattle.wire_core.specs.Ends.{is_busy_or_off}
use Rattle.ring_rows.proofs.bells.take_by_bells.Given as goal

abbrev pub invariant-loop-round : goal.invariant-loop-round
invariant-loop-round l = (l.consumer.ring ≡ l.initial.consumer.ring) × (is_busy_or_off l.consumer.knows.waiter ≡ true) × (l.consumer.knows.ringer ≡ Rung.Free) × (l.taken ≤ l.count)
