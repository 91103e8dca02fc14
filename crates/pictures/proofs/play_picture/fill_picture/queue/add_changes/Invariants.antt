use Rattle.std.proofs.Common.{◌≡◌, ◌++◌, drop}
use Rattle.pictures.specs.PlayPicture.Chart.{draw_each}
use Rattle.pictures.specs.PlayPicture.FillPicture.Fills.{change_shapes}
use Rattle.pictures.proofs.play_picture.fill_picture.queue.add_changes.Given as goal

-- what was drawn and what is left is the whole
abbrev pub invariant-loop-k : goal.invariant-loop-k
invariant-loop-k l =
    l.shapes ++ draw_each (change_shapes l.fills l.journal l.q l.row) l.k (drop l.k l.journal)
    ≡ l.initial.shapes ++ draw_each (change_shapes l.fills l.journal l.q l.row) l.from (drop l.from l.journal)
