use Rattle.std.proofs.Common.{subst, ◌∙◌}
use Rattle.decision_core.specs.declared.showing.Showing.TheVariants as Show
use Rattle.decision_core.specs.declared.showing.Asked.TheVariants as Ask
use Rattle.decision_core.specs.Decided.{decision_of}
use Rattle.decision_core.specs.Decisions.{TraceDecides}
use Rattle.decision_core.proofs.DecisionLemmas.{map-ok}
use Rattle.decision_core.proofs.deciding.decide_generated.Goals as goal

pub returns-in-Ok-clause-decides : goal.returns-in-Ok-clause-decides
returns-in-Ok-clause-decides c =
    map-ok c.decide_trace.result _ _ (λ d h. subst (λ x. TraceDecides c.args.plan (Ask.Play Show.Summary) x (decision_of d)) (c.as_bytes.ensures.value ∙ c.in-Ok.ensures) h) c.decide_trace.ensures.decides

pub returns-in-Ok-clause-playable : goal.returns-in-Ok-clause-playable
returns-in-Ok-clause-playable c = c.decide_trace.ensures.playable
