use Rattle.std.proofs.Common.{◌≡◌, true}
use Rattle.cargo_core.specs.declared.item.QueueKind.TheVariants as Kind
use Rattle.wire_core.specs.declared.names.Ringer.TheVariants as Rung
use Rattle.wire_core.specs.Ends.{is_busy_or_off}
use Rattle.seat_wires.specs.Places.{seat_end}
use Rattle.pipe_driver.specs.Drivers.{FitsPipes}
use Rattle.pipe_driver.specs.Lengths.{two_pipes}
use Rattle.base_rows.proofs.seats.tests.a_driver_moves_a_hundred_bytes_over_rings.Given as goal

abbrev pub invariant-loop-step : goal.invariant-loop-step
invariant-loop-step g l = (l.feed.ring ≡ l.initial.feed.ring) × (is_busy_or_off l.feed.knows.waiter ≡ true) × (l.feed.knows.ringer ≡ Rung.Free) × (l.feed.knows.kind ≡ Kind.Byte) × (l.drain.ring ≡ l.initial.drain.ring) × (is_busy_or_off l.drain.knows.waiter ≡ true) × (l.drain.knows.ringer ≡ Rung.Free) × FitsPipes (seat_end l.seats) (two_pipes l.driver.driver.pipes)
