use Rattle.std.proofs.Common.{◌≡◌, take}
use Rattle.system_core.specs.States.{bad_in}
use Rattle.system_core.proofs.lines.bad.Given as goal

abbrev pub invariant-loop-actor : goal.invariant-loop-actor
invariant-loop-actor l = l.bad ≡ bad_in (take l.actor-index l.actors)
