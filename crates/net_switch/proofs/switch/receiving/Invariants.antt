use Rattle.std.proofs.Common.{◌≡◌, map, take}
use Rattle.net_switch.specs.declared.switch.PortEnds.{PortEnds}
use Rattle.net_switch.specs.Switching.{queue_of}
use Rattle.net_switch.proofs.switch.receiving.Given as goal

abbrev pub invariant-loop-port : goal.invariant-loop-port
invariant-loop-port l = l.queues.items ≡ map (λ (p : PortEnds). queue_of p.rx l.place) (take l.port-index l.ports)
