use Rattle.net_switch.specs.SwitchDesk.Orders.{AreOnce}
use Rattle.net_switch.proofs.switch_desk.order.Order.new.Given as goal

abbrev pub invariant-loop-place : goal.invariant-loop-place
invariant-loop-place l = AreOnce l.place l.places.items
