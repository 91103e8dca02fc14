use Rattle.std.proofs.Common.{ap, sym, subst, Err}
use Rattle.view_plays.specs.ViewCore.Deciding.{decision_of, TextShows, too_long, refused, accepted}
use Rattle.view_plays.proofs.ViewCore.DecisionLemmas.{map-ok}
use Rattle.view_plays.proofs.view_core.deciding.decide_text.Goals as goal

pub returns-then-text-gt-TEXT_MOST : goal.returns-then-text-gt-TEXT_MOST
returns-then-text-gt-TEXT_MOST c =
    map-ok c.refuse_long.result _ _ (λ a h. subst (λ d. TextShows c.args.view c.args.text.now d) (sym h) (too_long c.if-text-gt-TEXT_MOST.true)) c.refuse_long.ensures

pub returns-in-Ok : goal.returns-in-Ok
returns-in-Ok c =
    map-ok c.draw.result _ _ (λ a h. accepted c.in-Ok.plan (decision_of a) c.if-text-gt-TEXT_MOST.false c.in-Ok.ensures.accepted h) c.draw.ensures

pub returns-in-Err : goal.returns-in-Err
returns-in-Err c =
    map-ok c.refuse.result _ _ (λ a h. subst (λ d. TextShows c.args.view c.args.text.now d) (sym h.2)
    (refused h.0 c.if-text-gt-TEXT_MOST.false (c.in-Err.ensures.refused h.0 (ap Err h.1)))) c.refuse.ensures
