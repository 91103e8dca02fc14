use Rattle.sdf_plan.specs.declared.class_table.uses.RoleUse.{RoleUse}
use Rattle.sdf_plan.specs.ClassTable.Shown.{Shelved, role_shown}
use Rattle.sdf_check.specs.ClassRules.{Plays}
use Rattle.sdf_check.proofs.LoopLemmas.{found, more, none_left, not-so}
use Rattle.sdf_check.proofs.rows.one_role_is_wrong.Goals as goal

pub returns-then-role_is_wrong : goal.returns-then-role_is_wrong
returns-then-role_is_wrong c = found (λ (r : RoleUse Shelved). ¬ Plays c.args.judge.now.plan.now (role_shown r)) c.args.roles.now c.loop-role.role-index _ c.loop-role-test.true (c.role_is_wrong.ensures.0 c.if-role_is_wrong.true)

pub loop-role-preserved : goal.loop-role-preserved
loop-role-preserved c =
    more (λ (r : RoleUse Shelved). ¬ Plays c.args.judge.now.plan.now (role_shown r)) c.args.roles.now c.loop-role.role-index _ c.loop-role-test.true
    (not-so c.role_is_wrong.result c.role_is_wrong.ensures.1 c.if-role_is_wrong.false) c.loop-role.invariant

pub returns : goal.returns
returns c = none_left (λ (r : RoleUse Shelved). ¬ Plays c.args.judge.now.plan.now (role_shown r)) c.args.roles.now c.loop-role.role-index c.loop-role-test.false c.loop-role.invariant
