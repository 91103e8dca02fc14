use Rattle.std.proofs.Common.{sym, subst}
use Rattle.library_examples.specs.ClassExample.Sources.{SourceStandsFor}
use Rattle.library_examples.proofs.class_example.source.Source.step.Goals as goal

pub returns-clause-stepped : goal.returns-clause-stepped
returns-clause-stepped g c =
    let s = c.step_output.ensures.stepped in
    record {
      body = s.body;
      happened = s.happened;
      kept = λ passed h. s.kept passed (subst (λ t. SourceStandsFor t passed) (sym c.choose.ensures.after) (record { sent_is = h.sent_is }));
    }
