use Rattle.export_text.specs.ConfigText.Config.{blk_client_text}
use Rattle.export_text.proofs.ConfigText.LineLemmas.{numbered-step}
use Rattle.export_text.proofs.config_text.class.push_partitions.Goals as goal

pub loop-at-preserved : goal.loop-at-preserved
loop-at-preserved c =
    numbered-step blk_client_text c.args.clients.now c.loop-at.at c.index-clients-at.result _ _ _ c.loop-at-test.true c.index-clients-at.is c.in_ok-push_partition.ensures c.loop-at.invariant
