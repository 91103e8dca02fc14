use Rattle.std.proofs.Common.{◌≡◌, ◌++◌, drop}
use Rattle.pictures.specs.PlayPicture.Chart.{step_shapes, draw_each}
use Rattle.pictures.proofs.play_picture.chart.add_steps.Given as goal

-- what was drawn and what is left is the whole
abbrev pub invariant-loop-k : goal.invariant-loop-k
invariant-loop-k l =
    l.shapes ++ draw_each (step_shapes l.lanes l.queues l.journal) l.k (drop l.k l.journal)
    ≡ l.initial.shapes ++ draw_each (step_shapes l.lanes l.queues l.journal) l.from (drop l.from l.journal)
