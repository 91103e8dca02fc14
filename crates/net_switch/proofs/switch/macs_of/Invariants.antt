use Rattle.std.proofs.Common.{◌≡◌, map, take}
use Rattle.net_switch.specs.declared.switch.PortEnds.{PortEnds}
use Rattle.net_switch.proofs.switch.macs_of.Given as goal

abbrev pub invariant-loop-port : goal.invariant-loop-port
invariant-loop-port l = l.macs.items ≡ map (λ (p : PortEnds). p.mac) (take l.port-index l.ports)
