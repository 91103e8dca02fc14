use Rattle.export_text.specs.ConfigText.Config.{irq_text}
use Rattle.export_text.proofs.ConfigText.LineLemmas.{numbered-step}
use Rattle.export_text.proofs.config_text.domain.push_irqs.Goals as goal

pub loop-at-preserved : goal.loop-at-preserved
loop-at-preserved c =
    numbered-step (irq_text c.args.domain.now) c.args.irqs.now c.loop-at.at c.index-irqs-at.result _ _ _ c.loop-at-test.true c.index-irqs-at.is c.in_ok-push_irq.ensures c.loop-at.invariant
