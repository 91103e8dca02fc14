use Rattle.sdf_plan.specs.declared.class_table.uses.Grant.{Grant}
use Rattle.sdf_plan.specs.ClassTable.Shown.{Shelved}
use Rattle.sdf_check.specs.ClassRules.{IsGranted}
use Rattle.sdf_check.proofs.LoopLemmas.{more, none_left}
use Rattle.sdf_check.proofs.rows.one_lacks_right.Goals as goal

pub loop-grant-preserved : goal.loop-grant-preserved
loop-grant-preserved c =
    more (λ (g : Grant Shelved). ¬ IsGranted c.args.judge.now.plan.now (g.domain.now, c.args.region.now, g.writes)) c.args.must.now c.loop-grant.grant-index _ c.loop-grant-test.true
    (λ none. none (c.is_granted.ensures.0 c.if-not-is_granted.false)) c.loop-grant.invariant

pub returns : goal.returns
returns c = none_left (λ (g : Grant Shelved). ¬ IsGranted c.args.judge.now.plan.now (g.domain.now, c.args.region.now, g.writes)) c.args.must.now c.loop-grant.grant-index c.loop-grant-test.false c.loop-grant.invariant
