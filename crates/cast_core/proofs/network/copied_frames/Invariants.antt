use Rattle.std.proofs.Common.{◌≡◌, take}
use Rattle.cast_core.proofs.network.copied_frames.Given as goal

abbrev pub invariant-loop-k : goal.invariant-loop-k
invariant-loop-k l = l.copy ≡ take l.k l.frames
