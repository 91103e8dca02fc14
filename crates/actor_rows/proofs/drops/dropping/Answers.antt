use Rattle.actor_rows.proofs.Sizing.{new_device}
use Rattle.actor_rows.proofs.drops.dropping.Goals as goal

pub returns : goal.returns
returns c = new_device c.in_ok-wires.wires c.in_ok-wires.ensures _ c.in_ok-device.device c.in_ok-device.ensures.short c.in_ok-device.ensures.new
