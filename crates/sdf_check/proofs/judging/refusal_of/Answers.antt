use Rattle.std.proofs.Common.{◌≡◌, ℕ, ◌<◌, ◌≤◌, subst, arith, ⊎_elim}
use Rattle.std.proofs.lemmas.Bool.{cases_lt}
use Rattle.sdf_plan.specs.Places.{walk, IsKept}
use Rattle.sdf_plan.specs.declared.plan.Plan.{Plan}
use Rattle.sdf_plan.specs.Elements.{outline_of}
use Rattle.sdf_check.specs.Valid.{broken}
use Rattle.sdf_check.proofs.judging.refusal_of.Goals as goal

pub loop-rule-preserved : goal.loop-rule-preserved
loop-rule-preserved c = λ n first less.
    ⊎_elim (λ (h : n < c.loop-rule.rule). c.loop-rule.invariant n first h)
    (λ (h : c.loop-rule.rule ≤ n).
    let same : c.loop-rule.rule ≡ n = omega (arith, h, less) in
    subst (λ (m : ℕ). IsKept (broken c.args.plan.now m) (walk (outline_of c.args.plan.now))) same
    (subst (λ (plan : Plan). IsKept (broken plan c.loop-rule.rule) (walk (outline_of plan))) c.in_ok-judge.ensures c.in_default.ensures))
    (cases_lt n c.loop-rule.rule)

pub returns : goal.returns
returns c = λ n first last. let below : n < c.loop-rule.rule = omega (arith, last, c.loop-rule-test.false) in c.loop-rule.invariant n first below
