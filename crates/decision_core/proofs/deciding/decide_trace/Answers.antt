use Rattle.std.proofs.Common.{ap, sym, Err, subst}
use Rattle.decision_core.specs.Decisions.{TraceDecides, asked_on, long_trace, bad_trace, good_trace}
use Rattle.decision_core.proofs.DecisionLemmas.{map-ok}
use Rattle.decision_core.proofs.PlayableLemmas.{said-playable}
use Rattle.decision_core.proofs.deciding.decide_trace.Goals as goal

pub returns-then-bytes-gt-TEXT_MOST-clause-decides : goal.returns-then-bytes-gt-TEXT_MOST-clause-decides
returns-then-bytes-gt-TEXT_MOST-clause-decides c =
    map-ok c.say_too_long.result _ _ (λ d e. subst (λ x. TraceDecides c.args.plan c.args.asked c.args.bytes.now x) (sym e) (long_trace c.if-bytes-gt-TEXT_MOST.true)) c.say_too_long.ensures

pub returns-in-Ok-clause-decides : goal.returns-in-Ok-clause-decides
returns-in-Ok-clause-decides c =
    subst (λ t. TraceDecides c.args.plan c.args.asked c.args.bytes.now (asked_on c.args.plan t c.args.asked)) (sym c.in-Ok.ensures.trace) (good_trace c.if-bytes-gt-TEXT_MOST.false c.in-Ok.ensures.good)

pub returns-in-Err-clause-decides : goal.returns-in-Err-clause-decides
returns-in-Err-clause-decides c =
    map-ok c.say_unread.result _ _
    (λ d h. subst (λ x. TraceDecides c.args.plan c.args.asked c.args.bytes.now x) (sym h.2) (bad_trace h.0 c.if-bytes-gt-TEXT_MOST.false (c.in-Err.ensures.bad h.0 (ap Err h.1))))
    c.say_unread.ensures

pub returns-then-bytes-gt-TEXT_MOST-clause-playable : goal.returns-then-bytes-gt-TEXT_MOST-clause-playable
returns-then-bytes-gt-TEXT_MOST-clause-playable c =
    map-ok c.say_too_long.result _ _ (λ d e. said-playable d _ _ e) c.say_too_long.ensures

pub returns-in-Ok-clause-playable : goal.returns-in-Ok-clause-playable
returns-in-Ok-clause-playable c = (c.requires.accepted, c.requires.numbered, record { text = c.args.bytes.now; good = c.in-Ok.ensures.good; given = c.in-Ok.ensures.trace })

pub returns-in-Err-clause-playable : goal.returns-in-Err-clause-playable
returns-in-Err-clause-playable c =
    map-ok c.say_unread.result _ _ (λ d h. said-playable d _ _ h.2) c.say_unread.ensures
