use Rattle.std.proofs.Common.{refl}
use Rattle.std.proofs.lemmas.Option.{slice_get_read}
use Rattle.pictures.specs.PlayPicture.FillPicture.Fills.{fill_shapes}
use Rattle.pictures.proofs.PlayPicture.FillPicture.DrawLemmas.{drawn_more}
use Rattle.pictures.proofs.play_picture.fill_picture.picture.add_queues.Goals as goal

pub loop-q-preserved : goal.loop-q-preserved
loop-q-preserved c =
    let there = slice_get_read c.args.queues.now _ c.loop-q.q c.index-queues-q.result refl c.loop-q-test.true c.index-queues-q.is in
    drawn_more (fill_shapes c.args.fills.now c.args.journal.now) c.args.queues.now c.loop-q.q c.index-queues-q.result _ _ _ there c.in_ok-add_queue.ensures c.loop-q.invariant
