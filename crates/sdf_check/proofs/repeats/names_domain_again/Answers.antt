use Rattle.sdf_plan.specs.ClassTable.Names.{domains_of}
use Rattle.sdf_plan.specs.ClassTable.Order.{number_of}
use Rattle.sdf_plan.specs.ClassTable.Shown.{element_shown}
use Rattle.sdf_plan.specs.ClassTable.Table.{table_of}
use Rattle.sdf_check.proofs.KeyLemmas.{flag-iff}
use Rattle.sdf_check.proofs.repeats.names_domain_again.Goals as goal

pub returns : goal.returns
returns c =
    let plan = c.args.judge.now.plan.now in
    flag-iff domains_of (table_of plan) c.args.tables.now.named_domains.again (number_of plan c.args.element.now.place) (element_shown c.args.element.now) c.names_again.result
    c.requires.tables.domains.again c.requires.stands (c.names_again.ensures plan c.requires.tables.classes)
