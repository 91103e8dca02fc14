use Rattle.std.proofs.Common.{map}
use Rattle.turn_kit.specs.ManyEnds.{needs_from}
use Rattle.turn_kit.proofs.Offers.{OffersOn}
use Rattle.turn_kit.proofs.each.offer_each.Given as goal

abbrev pub invariant-loop-k : goal.invariant-loop-k
invariant-loop-k g l = OffersOn l.fn.choice l.choice l.base l.k (map g.E.Listed.post l.ends) (needs_from (g.N.Needs.need l.needs) 0 (map g.E.Listed.queue l.ends))
