use Rattle.actor_rows.specs.Standings.{RxStands}
use Rattle.actor_rows.proofs.serial.hears_alone.Given as goal

abbrev pub invariant-loop-client : goal.invariant-loop-client
invariant-loop-client l = RxStands l.world l.virt
