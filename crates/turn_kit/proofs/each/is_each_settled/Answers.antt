use Rattle.std.proofs.Common.{refl}
use Rattle.std.proofs.lemmas.Option.{slice_get_read}
use Rattle.turn_kit.proofs.Offers.{end_stop, end_go}
use Rattle.turn_kit.proofs.each.is_each_settled.Goals as goal

pub returns-then-not-is_settled : goal.returns-then-not-is_settled
returns-then-not-is_settled g c = end_stop g.E.Listed.post g.E.Listed.queue c.loop-k.k c.args.ends.now c.index-ends-k.result (g.N.Needs.need c.args.needs.now) c.is_settled.result c.at.result (slice_get_read c.args.ends.now _ c.loop-k.k c.index-ends-k.result refl c.loop-k-test.true c.index-ends-k.is) c.is_settled.ensures c.at.ensures _ c.if-not-is_settled.true c.loop-k.invariant

pub loop-k-preserved : goal.loop-k-preserved
loop-k-preserved g c = end_go g.E.Listed.post g.E.Listed.queue c.loop-k.k c.args.ends.now c.index-ends-k.result (g.N.Needs.need c.args.needs.now) c.is_settled.result c.at.result (slice_get_read c.args.ends.now _ c.loop-k.k c.index-ends-k.result refl c.loop-k-test.true c.index-ends-k.is) c.is_settled.ensures c.at.ensures _ c.if-not-is_settled.false c.loop-k.invariant
