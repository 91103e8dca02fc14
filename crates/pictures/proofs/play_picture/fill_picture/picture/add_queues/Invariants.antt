use Rattle.std.proofs.Common.{◌≡◌, ◌++◌, drop}
use Rattle.pictures.specs.PlayPicture.Chart.{draw_each}
use Rattle.pictures.specs.PlayPicture.FillPicture.Fills.{fill_shapes}
use Rattle.pictures.proofs.play_picture.fill_picture.picture.add_queues.Given as goal

-- what was drawn and what is left is the whole
abbrev pub invariant-loop-q : goal.invariant-loop-q
invariant-loop-q l = l.shapes ++ draw_each (fill_shapes l.fills l.journal) l.q (drop l.q l.queues) ≡ l.initial.shapes ++ draw_each (fill_shapes l.fills l.journal) 0 l.queues
