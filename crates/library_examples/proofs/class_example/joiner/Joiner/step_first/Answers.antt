use Rattle.std.proofs.Common.{ap, sym, ◌∙◌}
use Rattle.std.specs.Option.{option_map}
use Rattle.wire_core.specs.declared.names.QueueId.{QueueId}
use Rattle.turn_kit.specs.declared.ends.Intake.{Intake}
use Rattle.library_examples.proofs.ClassExample.Hearing.{heard_first}
use Rattle.library_examples.proofs.class_example.joiner.Joiner.step_first.Goals as goal

pub returns-clause-stepped : goal.returns-clause-stepped
returns-clause-stepped g c = record {
  body = option_map (λ x. x.1) c.step-taken.result.1;
  happened = c.step-taken.ensures.did;
  kept = heard_first c.args.self.now c.hear.new.self c.step-taken.result.0 c.step-taken.result.1 c.requires.fits.apart c.step-taken.ensures.taken (ap (λ (q : QueueId). q.0) c.step-taken.ensures.on) c.step-taken.ensures.takes (λ some. sym c.wants_first-need.ensures ∙ c.step-taken.ensures.needed some) c.hear.ensures.claim c.hear.ensures.recorded (ap (λ (i : Intake). i.queue) c.hear.ensures.first ∙ c.step-taken.ensures.queue) (ap (λ (i : Intake). i.queue) c.hear.ensures.second);
}
