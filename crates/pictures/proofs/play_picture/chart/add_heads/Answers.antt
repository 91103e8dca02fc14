use Rattle.std.proofs.Common.{refl}
use Rattle.std.proofs.lemmas.Option.{slice_get_read}
use Rattle.pictures.specs.PlayPicture.Chart.{head_shapes}
use Rattle.pictures.proofs.PlayPicture.DrawLemmas.{drawn_more}
use Rattle.pictures.proofs.play_picture.chart.add_heads.Goals as goal

pub loop-a-preserved : goal.loop-a-preserved
loop-a-preserved c =
    let there = slice_get_read c.args.actors.now _ c.loop-a.a c.index-actors-a.result refl c.loop-a-test.true c.index-actors-a.is in
    drawn_more (head_shapes c.args.lanes.now) c.args.actors.now c.loop-a.a c.index-actors-a.result _ _ _ there c.in_ok-add_head.ensures c.loop-a.invariant
