use Rattle.std.proofs.Common.{refl}
use Rattle.std.proofs.lemmas.Option.{slice_get_read}
use Rattle.pictures.specs.LayoutView.LayoutPicture.Graph.{channel_edge}
use Rattle.pictures.proofs.LayoutView.LayoutPicture.DrawLemmas.{drawn_more}
use Rattle.pictures.proofs.layout_view.layout_picture.graph.push_channels.Goals as goal

pub loop-c-preserved : goal.loop-c-preserved
loop-c-preserved c =
    let there = slice_get_read c.args.channels.now _ c.loop-c.c c.index-channels-c.result refl c.loop-c-test.true c.index-channels-c.is in
    drawn_more channel_edge c.args.channels.now c.loop-c.c c.index-channels-c.result _ _ _ there c.in_ok-push_channel.ensures c.loop-c.invariant
