use Rattle.std.proofs.Common.{◌≡◌, ap, ◌∙◌, arith}
use Rattle.line_text.specs.Lists.{per_client}
use Rattle.switched_law.specs.SwitchClass.Starting.{new_page}
use Rattle.switched_law.proofs.SwitchClass.Listing.{one_more, whole_pool}
use Rattle.switched_law.proofs.switch_class.actors.pages.Goals as goal

pub loop-no-preserved : goal.loop-no-preserved
loop-no-preserved c = (one_more c.loop-no.no (new_page c.args.pool) c.loop-no.pages.items c.push.new.self.items _ c.loop-no.invariant.0 c.in_ok-push.ensures.items c.in_ok-new.ensures, omega arith)

pub returns : goal.returns
returns c = let four : c.loop-no.no ≡ 4 = omega (arith, c.loop-no.invariant.1) in whole_pool c.args.pool c.loop-no.pages.items (c.loop-no.invariant.0 ∙ ap (λ n. per_client n (new_page c.args.pool)) four)
