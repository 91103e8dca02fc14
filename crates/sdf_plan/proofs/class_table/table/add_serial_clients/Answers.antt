use Rattle.std.proofs.Common.{refl, ◌∙◌, ap, map}
use Rattle.sdf_plan.specs.ClassTable.Shown.{element_shown}
use Rattle.sdf_plan.specs.ClassTable.Table.{serial_client_element}
use Rattle.sdf_plan.proofs.ClassTable.Numbered.{numbered-step, shown-push}
use Rattle.sdf_plan.proofs.class_table.table.add_serial_clients.Goals as goal

pub loop-at-preserved : goal.loop-at-preserved
loop-at-preserved c =
    numbered-step (serial_client_element c.args.serial.now) _ _ _ _ c.args.clients.now c.index-clients-at.result c.loop-at.at _
    c.loop-at-test.true c.index-clients-at.is refl
    c.in_ok-serial_client_element.ensures (ap (map element_shown) c.in_ok-push.ensures.items ∙ shown-push _ _) c.loop-at.invariant
