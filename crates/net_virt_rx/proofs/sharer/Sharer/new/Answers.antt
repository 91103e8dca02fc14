use Rattle.std.proofs.Common.{refl, ap, ◌∙◌, arith}
use Rattle.net_virt_rx.specs.Sharing.{how_many}
use Rattle.net_virt_rx.proofs.Marking.{none_marked}
use Rattle.net_virt_rx.proofs.Working.{new_work, new_lent, nothing_out}
use Rattle.net_virt_rx.proofs.sharer.Sharer.new.Goals as goal

pub returns-clause-new : goal.returns-clause-new
returns-clause-new c = record {
  macs_are = refl;
  is_start = c.new-stock.ensures.start;
  base_is = c.new-stock.ensures.base;
  stock = c.new-stock.ensures.list;
  none_owed = ap how_many c.in_ok-owed.ensures ∙ none_marked c.len-clients.result;
  none_lent = new_lent c.in_ok-lent.lent c.new-stock.result.buffers c.in_ok-lent.ensures;
  nothing_lent = nothing_out c.in_ok-lent.lent c.new-stock.result.buffers c.in_ok-lent.ensures;
  none_ready = refl;
  none_stray = refl;
}

pub returns-clause-work : goal.returns-clause-work
returns-clause-work c = new_work _ c.args.pages.items c.args.base c.len-clients.result c.new-stock.ensures.stock c.new-stock.ensures.start c.new-stock.ensures.list c.requires.few
    (let e = c.len-clients.ensures in let f = c.args.macs.ok.0 in omega (arith, e, f)) c.in_ok-owed.ensures c.in_ok-lent.ensures c.in_ok-out.ensures refl refl
