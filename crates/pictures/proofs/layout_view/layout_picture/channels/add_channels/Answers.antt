use Rattle.std.proofs.Common.{refl}
use Rattle.std.proofs.lemmas.Option.{slice_get_read}
use Rattle.pictures.specs.LayoutView.LayoutPicture.Channels.{channel_shapes}
use Rattle.pictures.proofs.LayoutView.LayoutPicture.DrawLemmas.{drawn_more}
use Rattle.pictures.proofs.layout_view.layout_picture.channels.add_channels.Goals as goal

pub loop-c-preserved : goal.loop-c-preserved
loop-c-preserved c =
    let there = slice_get_read c.args.channels.now _ c.loop-c.c c.index-channels-c.result refl c.loop-c-test.true c.index-channels-c.is in
    drawn_more (channel_shapes c.args.grid.now c.args.cards.now) c.args.channels.now c.loop-c.c c.index-channels-c.result _ _ _ there c.in_ok-add_channel.ensures c.loop-c.invariant
