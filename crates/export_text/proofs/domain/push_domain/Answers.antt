use Rattle.export_text.specs.System.{inside_domain}
use Rattle.export_text.proofs.ElementLemmas.{element-written}
use Rattle.export_text.proofs.domain.push_domain.Goals as goal

pub returns : goal.returns
returns c =
    element-written _ _ _ _ (inside_domain c.args.domain.now) _ _ (rw c.in_ok-open_domain.ensures at c.in_ok-push.ensures.ok)
    c.in_ok-push_inside.ensures (rw c.in_ok-close.ensures at c.in_ok-push-2.ensures.ok)
