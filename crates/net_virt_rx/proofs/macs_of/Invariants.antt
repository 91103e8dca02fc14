use Rattle.std.proofs.Common.{◌≡◌, map, take}
use Rattle.net_virt_rx.specs.declared.LeaseEnds.{LeaseEnds}
use Rattle.net_virt_rx.proofs.macs_of.Given as goal

abbrev pub invariant-loop-client : goal.invariant-loop-client
invariant-loop-client l = l.macs.items ≡ map (λ (c : LeaseEnds). c.mac) (take l.client-index l.clients)
