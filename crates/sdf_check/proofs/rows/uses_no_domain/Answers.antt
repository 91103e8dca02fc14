use Rattle.sdf_plan.specs.ClassTable.Shown.{role_shown}
use Rattle.sdf_check.specs.ClassRules.{RoleHasNoDomain}
use Rattle.sdf_check.proofs.RowLemmas.{rows-one}
use Rattle.sdf_check.proofs.rows.uses_no_domain.Goals as goal

pub returns : goal.returns
returns c =
    rows-one (RoleHasNoDomain c.args.judge.now.plan.now) role_shown _ c.args.element.now.roles c.roles_have_no_domain.result c.as_slice.ensures c.roles_have_no_domain.ensures
