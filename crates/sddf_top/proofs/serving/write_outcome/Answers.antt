use Rattle.std.proofs.Common.{ap, sym, subst, ◌∙◌}
use Rattle.decision_core.specs.ShelfCore.Outside.{appended}
use Rattle.decision_core.specs.ShelfCore.Reading.{WasRead}
use Rattle.sddf_top.specs.Answers.{Serves}
use Rattle.sddf_top.specs.declared.played.Played.{Played}
use Rattle.sddf_top.proofs.AnswerLemmas.{written-whole}
use Rattle.sddf_top.proofs.serving.write_outcome.Goals as goal

pub returns-in-Ok-clause-served : goal.returns-in-Ok-clause-served
returns-in-Ok-clause-served g c told words a =
    subst (λ (p : Played). Serves (WasRead told) words (g.K.Sink.written c.args.sink.now) (g.K.Sink.written c.write_text.new.sink) c.args.outcome.status p) (sym c.put.ensures)
    (written-whole (WasRead told) words _ _ _ _ _ a (c.in-Ok.ensures.ok ∙ ap (λ text. appended (g.K.Sink.written c.args.sink.now) text) c.as_bytes.ensures.value))
