use Rattle.std.proofs.Common.{take}
use Rattle.system_core.proofs.Keeping.{AreQuiet}
use Rattle.system_core.proofs.names.has_hostile.Given as goal

abbrev pub invariant-loop-actor : goal.invariant-loop-actor
invariant-loop-actor l = AreQuiet (take l.actor-index l.actors)
