use Rattle.actor_rows.specs.Standings.{TxStands}
use Rattle.actor_rows.proofs.serial.offer_all.Given as goal

abbrev pub invariant-loop-client : goal.invariant-loop-client
invariant-loop-client l = TxStands l.world l.virt
