use Rattle.std.proofs.Common.{◌≡◌, ◌+◌, drop, map}
use Rattle.turn_kit.specs.Lowests.{found}
use Rattle.turn_kit.specs.ManyEnds.{needs_from}
use Rattle.turn_kit.specs.Turns.{unsettled_from}
use Rattle.turn_kit.proofs.each.unsettled_each.Given as goal

abbrev pub invariant-loop-k : goal.invariant-loop-k
invariant-loop-k g l = unsettled_from (found l.fn.lowest) l.base (map g.E.Listed.post l.ends) (needs_from (g.N.Needs.need l.needs) 0 (map g.E.Listed.queue l.ends)) ≡ unsettled_from (found l.lowest) (l.base + l.k) (drop l.k (map g.E.Listed.post l.ends)) (drop l.k (needs_from (g.N.Needs.need l.needs) 0 (map g.E.Listed.queue l.ends)))
