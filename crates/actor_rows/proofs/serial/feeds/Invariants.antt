use Rattle.actor_rows.specs.Standings.{DriverStands}
use Rattle.actor_rows.proofs.serial.feeds.Given as goal

abbrev pub invariant-loop-byte : goal.invariant-loop-byte
invariant-loop-byte l = DriverStands l.world l.driver
