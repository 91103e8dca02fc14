use Rattle.std.proofs.Common.{ap, sym, subst, Err}
use Rattle.decision_core.specs.Decided.{decision_of}
use Rattle.decision_core.specs.Decisions.{TextDecides, GeneratedDecides, long_description, refused, accepted}
use Rattle.decision_core.proofs.DecisionLemmas.{map-ok}
use Rattle.decision_core.proofs.PlayableLemmas.{said-playable}
use Rattle.decision_core.proofs.deciding.decide_gen.Goals as goal

pub returns-then-desc-gt-TEXT_MOST-clause-decides : goal.returns-then-desc-gt-TEXT_MOST-clause-decides
returns-then-desc-gt-TEXT_MOST-clause-decides c =
    map-ok c.say_too_long.result _ _ (λ d e. subst (λ x. TextDecides (GeneratedDecides c.args.number) c.args.desc.now x) (sym e) (long_description c.if-desc-gt-TEXT_MOST.true)) c.say_too_long.ensures

pub returns-in-Ok-clause-decides : goal.returns-in-Ok-clause-decides
returns-in-Ok-clause-decides c =
    map-ok c.decide_generated.result _ _ (λ d h. accepted c.in-Ok.plan (decision_of d) c.if-desc-gt-TEXT_MOST.false c.in-Ok.ensures.accepted h) c.decide_generated.ensures.decides

pub returns-in-Err-clause-decides : goal.returns-in-Err-clause-decides
returns-in-Err-clause-decides c =
    map-ok c.say_unaccepted.result _ _
    (λ d h. subst (λ x. TextDecides (GeneratedDecides c.args.number) c.args.desc.now x) (sym h.2) (refused h.0 c.if-desc-gt-TEXT_MOST.false (c.in-Err.ensures.refused h.0 (ap Err h.1))))
    c.say_unaccepted.ensures

pub returns-then-desc-gt-TEXT_MOST-clause-playable : goal.returns-then-desc-gt-TEXT_MOST-clause-playable
returns-then-desc-gt-TEXT_MOST-clause-playable c =
    map-ok c.say_too_long.result _ _ (λ d e. said-playable d _ _ e) c.say_too_long.ensures

pub decide_generated-requires-clause-accepted : goal.decide_generated-requires-clause-accepted
decide_generated-requires-clause-accepted c = (c.args.desc.now, c.in-Ok.ensures.accepted)

pub returns-in-Err-clause-playable : goal.returns-in-Err-clause-playable
returns-in-Err-clause-playable c =
    map-ok c.say_unaccepted.result _ _ (λ d h. said-playable d _ _ h.2) c.say_unaccepted.ensures
