use Rattle.std.proofs.Common.{◌≡◌, ◌++◌, map, drop}
use Rattle.sdf_plan.specs.ClassTable.Shown.{element_shown}
use Rattle.sdf_plan.specs.ClassTable.Table.{numbered, blk_client_element}
use Rattle.sdf_plan.proofs.class_table.table.add_blk_clients.Given as goal

abbrev pub invariant-loop-at : goal.invariant-loop-at
invariant-loop-at l =
    map element_shown l.table.items ++ numbered (blk_client_element l.blk) l.at (drop l.at l.clients)
    ≡ map element_shown l.initial.table.items ++ numbered (blk_client_element l.blk) 0 l.clients
