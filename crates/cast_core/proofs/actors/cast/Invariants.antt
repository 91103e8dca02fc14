use Rattle.cast_core.proofs.Growing.{AreFirst}
use Rattle.cast_core.proofs.actors.cast.Given as goal

abbrev pub invariant-loop-number : goal.invariant-loop-number
invariant-loop-number l = AreFirst l.plan l.trace l.number l.actors.items
