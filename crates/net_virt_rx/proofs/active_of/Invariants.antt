use Rattle.std.proofs.Common.{◌≡◌, map, take}
use Rattle.net_virt_rx.specs.declared.LeaseEnds.{LeaseEnds}
use Rattle.net_virt_rx.proofs.active_of.Given as goal

abbrev pub invariant-loop-client : goal.invariant-loop-client
invariant-loop-client l = l.queues.items ≡ map (λ (c : LeaseEnds). c.active) (take l.client-index l.clients)
