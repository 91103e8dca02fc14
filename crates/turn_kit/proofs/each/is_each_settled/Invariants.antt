use Rattle.std.proofs.Common.{◌≡◌, drop, map}
use Rattle.turn_kit.specs.ManyEnds.{needs_from}
use Rattle.turn_kit.specs.Turns.{settled_all}
use Rattle.turn_kit.proofs.each.is_each_settled.Given as goal

abbrev pub invariant-loop-k : goal.invariant-loop-k
invariant-loop-k g l = settled_all (map g.E.Listed.post l.ends) (needs_from (g.N.Needs.need l.needs) 0 (map g.E.Listed.queue l.ends)) ≡ settled_all (drop l.k (map g.E.Listed.post l.ends)) (drop l.k (needs_from (g.N.Needs.need l.needs) 0 (map g.E.Listed.queue l.ends)))
