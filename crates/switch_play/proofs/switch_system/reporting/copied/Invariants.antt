use Rattle.std.proofs.Common.{◌≡◌, take}
use Rattle.switch_play.proofs.switch_system.reporting.copied.Given as goal

abbrev pub invariant-loop-k : goal.invariant-loop-k
invariant-loop-k l = l.copy ≡ take l.k l.frames
