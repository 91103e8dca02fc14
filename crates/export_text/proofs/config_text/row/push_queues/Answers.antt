use Rattle.export_text.specs.ConfigText.Config.{queue_text}
use Rattle.export_text.proofs.ConfigText.LineLemmas.{numbered-step}
use Rattle.export_text.proofs.config_text.row.push_queues.Goals as goal

pub loop-at-preserved : goal.loop-at-preserved
loop-at-preserved c =
    numbered-step queue_text c.args.queues.now c.loop-at.at c.index-queues-at.result _ _ _ c.loop-at-test.true c.index-queues-at.is c.in_ok-push_queue.ensures c.loop-at.invariant
