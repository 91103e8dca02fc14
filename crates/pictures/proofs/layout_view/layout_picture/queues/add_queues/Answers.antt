use Rattle.std.proofs.Common.{refl}
use Rattle.std.proofs.lemmas.Option.{slice_get_read}
use Rattle.pictures.specs.LayoutView.LayoutPicture.Queues.{queue_shapes}
use Rattle.pictures.proofs.LayoutView.LayoutPicture.DrawLemmas.{drawn_more}
use Rattle.pictures.proofs.layout_view.layout_picture.queues.add_queues.Goals as goal

pub loop-q-preserved : goal.loop-q-preserved
loop-q-preserved c =
    let there = slice_get_read c.args.queues.now _ c.loop-q.q c.index-queues-q.result refl c.loop-q-test.true c.index-queues-q.is in
    let s = c.args.stage.now in
    drawn_more (queue_shapes s.grid.now s.cards.now s.regions.now s.actors.now) c.args.queues.now c.loop-q.q c.index-queues-q.result _ _ _ there c.in_ok-add_queue.ensures c.loop-q.invariant
