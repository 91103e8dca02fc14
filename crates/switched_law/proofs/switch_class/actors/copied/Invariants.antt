use Rattle.std.proofs.Common.{◌≡◌, take}
use Rattle.switched_law.proofs.switch_class.actors.copied.Given as goal

abbrev pub invariant-loop-k : goal.invariant-loop-k
invariant-loop-k l = l.copy ≡ take l.k l.frames
