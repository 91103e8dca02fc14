use Rattle.export_text.specs.ConfigText.Config.{channel_text}
use Rattle.export_text.proofs.ConfigText.LineLemmas.{numbered-step}
use Rattle.export_text.proofs.config_text.domain.push_channels.Goals as goal

pub loop-at-preserved : goal.loop-at-preserved
loop-at-preserved c =
    numbered-step channel_text c.args.channels.now c.loop-at.at c.index-channels-at.result _ _ _ c.loop-at-test.true c.index-channels-at.is (rw c.as_slice.ensures at c.in_ok-push_ends.ensures) c.loop-at.invariant
