use Rattle.std.proofs.Common.{◌++◌, [], ◌∷◌, sym, ap, ◌∙◌}
use Rattle.class_expect.specs.NetExpect.Expecting.{answers_for}
use Rattle.class_expect.proofs.NetExpect.Choosing.{one_answer_more}
use Rattle.class_expect.proofs.net_expect.answers_for.Goals as goal

pub loop-at-preserved : goal.loop-at-preserved
loop-at-preserved c = c.in_ok-append_answer.ensures ∙ (ap (λ log. log ++ answers_for c.args.mac (c.get.result.now ∷ [])) c.loop-at.invariant ∙ sym (one_answer_more c.args.mac c.args.frames.now c.loop-at.at c.get.result.now c.get.ensures))
