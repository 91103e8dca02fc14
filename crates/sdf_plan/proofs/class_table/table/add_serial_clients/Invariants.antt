use Rattle.std.proofs.Common.{◌≡◌, ◌++◌, map, drop}
use Rattle.sdf_plan.specs.ClassTable.Shown.{element_shown}
use Rattle.sdf_plan.specs.ClassTable.Table.{numbered, serial_client_element}
use Rattle.sdf_plan.proofs.class_table.table.add_serial_clients.Given as goal

abbrev pub invariant-loop-at : goal.invariant-loop-at
invariant-loop-at l =
    map element_shown l.table.items ++ numbered (serial_client_element l.serial) l.at (drop l.at l.clients)
    ≡ map element_shown l.initial.table.items ++ numbered (serial_client_element l.serial) 0 l.clients
