use Rattle.sdf_check.proofs.BrokenLemmas.{early-prior}
use Rattle.sdf_check.proofs.judging.breaks_at_place.Goals as goal

pub returns-then-rule-lt21-clause-sound : goal.returns-then-rule-lt21-clause-sound
returns-then-rule-lt21-clause-sound c = λ t.
    early-prior c.args.judge.now.plan.now c.args.rule c.args.place c.if-rule-lt21.true (c.breaks_plan_rule.ensures.sound t)
