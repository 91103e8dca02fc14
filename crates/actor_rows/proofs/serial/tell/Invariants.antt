use Rattle.actor_rows.specs.Standings.{RxStands}
use Rattle.actor_rows.proofs.serial.tell.Given as goal

abbrev pub invariant-loop-byte : goal.invariant-loop-byte
invariant-loop-byte l = RxStands l.world l.virt
