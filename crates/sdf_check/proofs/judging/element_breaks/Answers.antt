use Rattle.sdf_plan.specs.ClassTable.Shown.{element_shown}
use Rattle.sdf_check.specs.Valid.{BreaksByRows}
use Rattle.sdf_check.proofs.KeyLemmas.{stands-there}
use Rattle.sdf_check.proofs.RowLemmas.{element-asked, none-asked}
use Rattle.sdf_check.proofs.judging.element_breaks.Goals as goal

pub returns-in-Some : goal.returns-in-Some
returns-in-Some c =
    element-asked c.args.judge.now.plan.now (element_shown c.in-Some.element.now) c.args.place (BreaksByRows c.args.judge.now.plan.now c.args.rule) c.breaks_by_rows.result
    (c.in-Some.ensures c.args.judge.now.plan.now c.requires.classes) c.breaks_by_rows.ensures

pub returns-in-None : goal.returns-in-None
returns-in-None c =
    none-asked c.args.judge.now.plan.now c.args.place (BreaksByRows c.args.judge.now.plan.now c.args.rule) (c.in-None.ensures c.args.judge.now.plan.now c.requires.classes)

pub breaks_by_rows-requires-clause-stands : goal.breaks_by_rows-requires-clause-stands
breaks_by_rows-requires-clause-stands c =
    stands-there c.args.judge.now.plan.now c.args.place (element_shown c.in-Some.element.now) (c.in-Some.ensures c.args.judge.now.plan.now c.requires.classes)
