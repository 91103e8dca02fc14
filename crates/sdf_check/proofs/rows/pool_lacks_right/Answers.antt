use Rattle.sdf_plan.specs.declared.class_table.uses.Grant.{Grant}
use Rattle.sdf_plan.specs.ClassTable.Rows.{Name}
use Rattle.sdf_plan.specs.ClassTable.Shown.{grant_shown}
use Rattle.sdf_check.specs.ClassRules.{IsGranted}
use Rattle.sdf_check.proofs.RowLemmas.{rows-one}
use Rattle.sdf_check.proofs.rows.pool_lacks_right.Goals as goal

pub returns : goal.returns
returns c =
    rows-one (λ (g : Grant Name). ¬ IsGranted c.args.judge.now.plan.now (g.domain, c.args.pool.now.region.now, g.writes)) grant_shown _ c.args.pool.now.must c.one_lacks_right.result
    c.as_slice.ensures c.one_lacks_right.ensures
