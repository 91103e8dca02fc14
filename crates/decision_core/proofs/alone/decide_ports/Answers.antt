use Rattle.std.proofs.Common.{ap, sym, Err, subst}
use Rattle.decision_core.specs.declared.showing.Alone.TheVariants as Only
use Rattle.decision_core.specs.Decisions.{AloneDecides, PlayPorts, long_text_alone, bad_text, good_text}
use Rattle.decision_core.proofs.DecisionLemmas.{map-ok}
use Rattle.decision_core.proofs.alone.decide_ports.Goals as goal

pub returns-then-bytes-gt-TEXT_MOST : goal.returns-then-bytes-gt-TEXT_MOST
returns-then-bytes-gt-TEXT_MOST c =
    map-ok c.say_too_long.result _ _ (λ d e. subst (λ x. AloneDecides (Only.Switch c.args.schedule) c.args.bytes.now x) (sym e) (long_text_alone c.if-bytes-gt-TEXT_MOST.true)) c.say_too_long.ensures

pub returns-in-Ok : goal.returns-in-Ok
returns-in-Ok c =
    subst (λ t. AloneDecides (Only.Switch c.args.schedule) c.args.bytes.now t) (ap (λ x. PlayPorts x c.args.schedule) (sym c.in-Ok.ensures.ports)) (good_text c.if-bytes-gt-TEXT_MOST.false c.in-Ok.ensures.good)

pub returns-in-Err : goal.returns-in-Err
returns-in-Err c =
    map-ok c.say_unread_ports.result _ _
    (λ d h. subst (λ x. AloneDecides (Only.Switch c.args.schedule) c.args.bytes.now x) (sym h.2) (bad_text h.0 c.if-bytes-gt-TEXT_MOST.false (c.in-Err.ensures.bad h.0 (ap Err h.1))))
    c.say_unread_ports.ensures
