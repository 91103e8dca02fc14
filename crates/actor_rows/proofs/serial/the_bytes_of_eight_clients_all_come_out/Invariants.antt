use Rattle.actor_rows.specs.Standings.{TxStands}
use Rattle.actor_rows.proofs.serial.the_bytes_of_eight_clients_all_come_out.Given as goal

abbrev pub invariant-loop-byte : goal.invariant-loop-byte
invariant-loop-byte l = TxStands l.wires l.virt
