use Rattle.sdf_plan.specs.declared.class_table.uses.RoleUse.{RoleUse}
use Rattle.sdf_plan.specs.ClassTable.Rows.{Name}
use Rattle.sdf_plan.specs.ClassTable.Shown.{role_shown}
use Rattle.sdf_check.specs.ClassRules.{Plays}
use Rattle.sdf_check.proofs.RowLemmas.{rows-one}
use Rattle.sdf_check.proofs.rows.gives_wrong_role.Goals as goal

pub returns : goal.returns
returns c =
    rows-one (λ (r : RoleUse Name). ¬ Plays c.args.judge.now.plan.now r) role_shown _ c.args.element.now.roles c.one_role_is_wrong.result c.as_slice.ensures c.one_role_is_wrong.ensures
