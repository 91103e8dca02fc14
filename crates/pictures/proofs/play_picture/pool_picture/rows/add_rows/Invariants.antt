use Rattle.std.proofs.Common.{◌≡◌, ◌++◌, drop}
use Rattle.pictures.specs.PlayPicture.PoolPicture.Rows.{row_shapes, draw_each}
use Rattle.pictures.proofs.play_picture.pool_picture.rows.add_rows.Given as goal

-- what was drawn and what is left is the whole
abbrev pub invariant-loop-k : goal.invariant-loop-k
invariant-loop-k l = l.shapes ++ draw_each (row_shapes l.left) l.k (drop l.k l.pools) ≡ l.initial.shapes ++ draw_each (row_shapes l.left) 0 l.pools
