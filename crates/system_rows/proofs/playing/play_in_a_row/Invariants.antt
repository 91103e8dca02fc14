use Rattle.std.proofs.Common.{◌≡◌, []}
use Rattle.system_core.specs.Plays.{runnable_now}
use Rattle.system_core.specs.PlanPlays.{StaysOfItsPlan}
use Rattle.system_core.specs.declared.system.Ending.TheVariants as Ends
use Rattle.system_rows.proofs.playing.play_in_a_row.Given as goal

-- the system stays one of its plan and trace, and the last ending says whether it is quiet
abbrev pub invariant-loop-seed : goal.invariant-loop-seed
invariant-loop-seed l =
    StaysOfItsPlan l.fn.system l.system × (l.ending ≡ Ends.Quiet → runnable_now l.system ≡ [])
