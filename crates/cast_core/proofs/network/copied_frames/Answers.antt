use Rattle.std.proofs.Common.{◌∷◌, ◌++◌, [], ap, sym, ◌∙◌}
use Rattle.cast_core.proofs.Listing.{take_more}
use Rattle.cast_core.proofs.network.copied_frames.Goals as goal

pub loop-k-preserved : goal.loop-k-preserved
loop-k-preserved c = c.in_ok-push.ensures.ok ∙ (ap (λ l. l ++ c.get.result.now ∷ []) c.loop-k.invariant ∙ sym (take_more c.args.frames.now c.loop-k.k c.get.result.now c.get.ensures))
