use Rattle.actor_rows.proofs.NetTx.Fitting.{new_stands}
use Rattle.actor_rows.proofs.sending.standing.Goals as goal

pub returns : goal.returns
returns c = new_stands _ _ c.in_ok-wires.wires c.in_ok-virt.virt c.in_ok-wires.ensures c.in_ok-virt.ensures
