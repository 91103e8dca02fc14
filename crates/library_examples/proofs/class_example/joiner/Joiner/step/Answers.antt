use Rattle.std.proofs.Common.{◌∙◌, sym, subst}
use Rattle.library_examples.specs.ClassExample.Joiners.{JoinerStandsFor}
use Rattle.library_examples.proofs.class_example.joiner.Joiner.step.Goals as goal

pub returns-in-0-clause-stepped : goal.returns-in-0-clause-stepped
returns-in-0-clause-stepped g c =
    let s = c.step_first.ensures.stepped in
    record {
      body = s.body;
      happened = s.happened;
      kept = λ passed h. s.kept passed (subst (λ t. JoinerStandsFor t passed) (sym c.choose.ensures.after) (record { claim_is = h.claim_is; record_is = c.in_ok-reserve.ensures.ok ∙ h.record_is; first_alone = h.first_alone; second_alone = h.second_alone }));
    }

pub returns-in-1-clause-stepped : goal.returns-in-1-clause-stepped
returns-in-1-clause-stepped g c =
    let s = c.step_second.ensures.stepped in
    record {
      body = s.body;
      happened = s.happened;
      kept = λ passed h. s.kept passed (subst (λ t. JoinerStandsFor t passed) (sym c.choose.ensures.after) (record { claim_is = h.claim_is; record_is = c.in_ok-reserve.ensures.ok ∙ h.record_is; first_alone = h.first_alone; second_alone = h.second_alone }));
    }
