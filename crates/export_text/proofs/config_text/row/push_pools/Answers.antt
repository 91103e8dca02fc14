use Rattle.export_text.specs.ConfigText.Config.{pool_text}
use Rattle.export_text.proofs.ConfigText.LineLemmas.{numbered-step}
use Rattle.export_text.proofs.config_text.row.push_pools.Goals as goal

pub loop-at-preserved : goal.loop-at-preserved
loop-at-preserved c =
    numbered-step pool_text c.args.pools.now c.loop-at.at c.index-pools-at.result _ _ _ c.loop-at-test.true c.index-pools-at.is c.in_ok-push_pool.ensures c.loop-at.invariant
