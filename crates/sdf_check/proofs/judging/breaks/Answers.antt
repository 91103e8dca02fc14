use Rattle.sdf_check.proofs.BrokenLemmas.{at-place-prior, by-rows-complete}
use Rattle.sdf_check.proofs.judging.breaks.Goals as goal

pub returns-then-breaks_at_place-clause-sound : goal.returns-then-breaks_at_place-clause-sound
returns-then-breaks_at_place-clause-sound c = λ t. at-place-prior c.args.judge.now.plan.now c.args.rule c.args.place (c.breaks_at_place.ensures.sound t)

pub returns-else-breaks_at_place-clause-complete : goal.returns-else-breaks_at_place-clause-complete
returns-else-breaks_at_place-clause-complete c =
    by-rows-complete c.args.judge.now.plan.now c.args.rule c.args.place c.breaks_at_place.result c.element_breaks.result c.breaks_at_place.ensures.complete
    c.if-breaks_at_place.false c.element_breaks.ensures.1
