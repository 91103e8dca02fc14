use Rattle.std.proofs.Common.{[], ◌∷◌, refl}
use Rattle.std.proofs.lemmas.Option.{slice_get_read}
use Rattle.report_text.specs.Layouts.{queue_line}
use Rattle.report_text.proofs.LineLemmas.{client_written}
use Rattle.report_text.proofs.layout.add_queues.Goals as goal

pub loop-k-preserved : goal.loop-k-preserved
loop-k-preserved c =
    let there = slice_get_read c.args.queues.now _ c.loop-k.k c.index-queues-k.result refl c.loop-k-test.true c.index-queues-k.is in
    client_written (λ n queue. queue_line c.args.regions.now c.args.actors.now n queue ∷ []) c.args.queues.now c.loop-k.k c.index-queues-k.result _ _ _ there c.in_ok-add_queue.ensures c.loop-k.invariant
