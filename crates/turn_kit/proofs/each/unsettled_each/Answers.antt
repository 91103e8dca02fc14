use Rattle.std.proofs.Common.{refl}
use Rattle.std.proofs.lemmas.Option.{slice_get_read}
use Rattle.turn_kit.specs.Lowests.{found}
use Rattle.turn_kit.proofs.Offers.{end_counted}
use Rattle.turn_kit.proofs.each.unsettled_each.Goals as goal

pub loop-k-preserved : goal.loop-k-preserved
loop-k-preserved g c = end_counted g.E.Listed.post g.E.Listed.queue _ (found c.loop-k.lowest) (found c.unless_settled-lowest.result) c.args.base c.loop-k.k c.args.ends.now c.index-ends-k.result (g.N.Needs.need c.args.needs.now) c.queue.result.0 c.is_settled.result c.at.result (slice_get_read c.args.ends.now _ c.loop-k.k c.index-ends-k.result refl c.loop-k-test.true c.index-ends-k.is) c.queue.ensures.post c.unless_settled-lowest.ensures c.is_settled.ensures c.at.ensures c.loop-k.invariant
