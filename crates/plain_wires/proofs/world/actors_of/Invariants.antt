use Rattle.std.proofs.Common.{◌<◌, take, All}
use Rattle.plain_wires.proofs.world.actors_of.Given as goal

abbrev pub invariant-loop-row : goal.invariant-loop-row
invariant-loop-row l = All (λ r. (r.producer.0 < l.count) × (r.consumer.0 < l.count)) (take l.row-index l.rows)
