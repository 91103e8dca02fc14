use Rattle.export_text.specs.ConfigText.Config.{region_text}
use Rattle.export_text.proofs.ConfigText.LineLemmas.{numbered-step}
use Rattle.export_text.proofs.config_text.row.push_regions.Goals as goal

pub loop-at-preserved : goal.loop-at-preserved
loop-at-preserved c =
    numbered-step region_text c.args.regions.now c.loop-at.at c.index-regions-at.result _ _ _ c.loop-at-test.true c.index-regions-at.is c.in_ok-push_region.ensures c.loop-at.invariant
