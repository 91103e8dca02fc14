use Rattle.actor_rows.specs.Standings.{RxStands}
use Rattle.actor_rows.proofs.serial.each_of_eight_clients_gets_its_byte.Given as goal

abbrev pub invariant-loop-client : goal.invariant-loop-client
invariant-loop-client l = RxStands l.wires l.virt
