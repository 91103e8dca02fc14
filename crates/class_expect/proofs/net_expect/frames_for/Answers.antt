use Rattle.std.proofs.Common.{◌++◌, [], ◌∷◌, sym, ap, ◌∙◌}
use Rattle.class_expect.specs.NetExpect.Expecting.{frames_for}
use Rattle.class_expect.proofs.NetExpect.Choosing.{one_more}
use Rattle.class_expect.proofs.net_expect.frames_for.Goals as goal

pub loop-at-preserved : goal.loop-at-preserved
loop-at-preserved c = c.in_ok-append_if_for.ensures ∙ (ap (λ log. log ++ frames_for c.args.mac (c.get.result.now ∷ [])) c.loop-at.invariant ∙ sym (one_more c.args.mac c.args.frames.now c.loop-at.at c.get.result.now c.get.ensures))
