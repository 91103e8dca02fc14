use Rattle.std.proofs.Common.{◌<◌, ◌^◌, length, All}
use Rattle.actor_rows.proofs.sizes.frames.Given as goal

abbrev pub invariant-loop-frame : goal.invariant-loop-frame
invariant-loop-frame l = All (λ frame. length frame < 2 ^ 16) l.log
