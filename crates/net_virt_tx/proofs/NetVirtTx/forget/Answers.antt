use Rattle.buffer_kit.specs.Virtualising.{net_kinds}
use Rattle.net_virt_tx.proofs.NetVirtTx.forget.Goals as goal

pub returns-clause-fits : goal.returns-clause-fits
returns-clause-fits c ends h = record {
  ends_fit = c.forget.ensures.fits net_kinds ends h.ends_fit;
  work = h.work;
  from_each = rw c.forget.ensures.same.from_clients h.from_each;
  to_each = rw c.forget.ensures.same.to_clients h.to_each;
}
