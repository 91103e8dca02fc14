use Rattle.actor_rows.proofs.Driving.{new_driver}
use Rattle.actor_rows.proofs.serial.driven.Goals as goal

pub returns : goal.returns
returns c = new_driver c.in_ok-wires.wires c.new-driver.result c.in_ok-wires.ensures c.new-driver.ensures.rx c.new-driver.ensures.tx
