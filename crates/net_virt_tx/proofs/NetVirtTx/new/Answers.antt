use Rattle.net_virt_tx.specs.declared.TxEnds.{TxEnds}
use Rattle.net_virt_tx.proofs.Rounds.{new_stands, as_many, from_long, to_long}
use Rattle.net_virt_tx.proofs.NetVirtTx.new.Goals as goal

pub returns-clause-stands : goal.returns-clause-stands
returns-clause-stands c = new_stands _ c.in_ok-work.work c.in_ok-work.ensures.work c.in_ok-work.ensures.new _ _ _ _
    (as_many _ _ c.deref-3.result.now c.in_ok-from_clients.from_clients.items c.deref.result.now c.args.clients.items c.deref-5.result.now (λ (x : TxEnds). x.active) (from_long c.in_ok-ends.ends c.deref-3.result.now c.in_ok-ends.ensures.from_is) c.deref-3.ensures.value c.in_ok-from_clients.ensures c.deref.ensures.value c.deref-5.ensures.value)
    (as_many _ _ c.deref-4.result.now c.in_ok-to_clients.to_clients.items c.deref-2.result.now c.args.clients.items c.deref-5.result.now (λ (x : TxEnds). x.free) (to_long c.in_ok-ends.ends c.deref-4.result.now c.in_ok-ends.ensures.to_is) c.deref-4.ensures.value c.in_ok-to_clients.ensures c.deref-2.ensures.value c.deref-5.ensures.value)
