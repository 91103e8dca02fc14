use Rattle.std.proofs.Common.{◌∷◌, ◌++◌, [], ap, sym, ◌∙◌}
use Rattle.switched_law.proofs.SwitchClass.Listing.{take_more}
use Rattle.switched_law.proofs.switch_class.actors.copied.Goals as goal

pub loop-k-preserved : goal.loop-k-preserved
loop-k-preserved c = c.in_ok-push.ensures.ok ∙ (ap (λ l. l ++ c.get.result.now ∷ []) c.loop-k.invariant ∙ sym (take_more c.args.frames.now c.loop-k.k c.get.result.now c.get.ensures))
