use Rattle.std.proofs.Common.{refl}
use Rattle.std.proofs.lemmas.Option.{slice_get_read}
use Rattle.pictures.specs.PlayPicture.PoolPicture.Rows.{row_shapes}
use Rattle.pictures.proofs.PlayPicture.PoolPicture.DrawLemmas.{drawn_more}
use Rattle.pictures.proofs.play_picture.pool_picture.rows.add_rows.Goals as goal

pub loop-k-preserved : goal.loop-k-preserved
loop-k-preserved c =
    let there = slice_get_read c.args.pools.now _ c.loop-k.k c.index-pools-k.result refl c.loop-k-test.true c.index-pools-k.is in
    drawn_more (row_shapes c.args.left) c.args.pools.now c.loop-k.k c.index-pools-k.result _ _ _ there c.in_ok-add_row.ensures c.loop-k.invariant
