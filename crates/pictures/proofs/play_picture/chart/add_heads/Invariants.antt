use Rattle.std.proofs.Common.{◌≡◌, ◌++◌, drop}
use Rattle.pictures.specs.PlayPicture.Chart.{head_shapes, draw_each}
use Rattle.pictures.proofs.play_picture.chart.add_heads.Given as goal

-- what was drawn and what is left is the whole
abbrev pub invariant-loop-a : goal.invariant-loop-a
invariant-loop-a l = l.shapes ++ draw_each (head_shapes l.lanes) l.a (drop l.a l.actors) ≡ l.initial.shapes ++ draw_each (head_shapes l.lanes) 0 l.actors
