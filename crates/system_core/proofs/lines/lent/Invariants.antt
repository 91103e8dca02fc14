use Rattle.std.proofs.Common.{◌≡◌, take}
use Rattle.system_core.specs.States.{lent_by}
use Rattle.system_core.proofs.lines.lent.Given as goal

abbrev pub invariant-loop-actor : goal.invariant-loop-actor
invariant-loop-actor l = l.count ≡ lent_by l.pool (take l.actor-index l.actors)
