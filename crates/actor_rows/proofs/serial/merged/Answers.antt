use Rattle.actor_rows.proofs.Merging.{new_merger}
use Rattle.actor_rows.proofs.serial.merged.Goals as goal

pub returns : goal.returns
returns c = new_merger c.in_ok-wires.wires c.in_ok-virt.virt c.in_ok-wires.ensures c.in_ok-virt.ensures
