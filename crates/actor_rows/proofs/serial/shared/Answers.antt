use Rattle.actor_rows.proofs.Fitting.{new_stands}
use Rattle.actor_rows.proofs.serial.shared.Goals as goal

pub returns : goal.returns
returns c = new_stands c.in_ok-wires.wires c.in_ok-virt.virt c.in_ok-wires.ensures c.in_ok-virt.ensures
