use Rattle.std.proofs.Common.{◌≡◌, map, take}
use Rattle.net_virt_tx.specs.declared.TxEnds.{TxEnds}
use Rattle.net_virt_tx.proofs.active_of.Given as goal

abbrev pub invariant-loop-client : goal.invariant-loop-client
invariant-loop-client l = l.queues.items ≡ map (λ (c : TxEnds). c.active) (take l.client-index l.clients)
