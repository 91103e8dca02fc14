use Rattle.export_text.specs.ConfigText.Config.{domain_text}
use Rattle.export_text.proofs.ConfigText.LineLemmas.{numbered-step}
use Rattle.export_text.proofs.config_text.domain.push_domains.Goals as goal

pub loop-at-preserved : goal.loop-at-preserved
loop-at-preserved c =
    numbered-step domain_text c.args.domains.now c.loop-at.at c.index-domains-at.result _ _ _ c.loop-at-test.true c.index-domains-at.is c.in_ok-push_domain.ensures c.loop-at.invariant
