use Rattle.export_text.specs.ConfigText.Config.{map_text}
use Rattle.export_text.proofs.ConfigText.LineLemmas.{numbered-step}
use Rattle.export_text.proofs.config_text.domain.push_maps.Goals as goal

pub loop-at-preserved : goal.loop-at-preserved
loop-at-preserved c =
    numbered-step (map_text c.args.domain.now) c.args.maps.now c.loop-at.at c.index-maps-at.result _ _ _ c.loop-at-test.true c.index-maps-at.is c.in_ok-push_map.ensures c.loop-at.invariant
