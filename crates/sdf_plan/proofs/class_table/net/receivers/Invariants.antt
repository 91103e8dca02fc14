use Rattle.std.proofs.Common.{◌≡◌, ◌∷◌, map, take}
use Rattle.sdf_plan.specs.declared.plan.NetClient.{NetClient}
use Rattle.sdf_plan.specs.ClassTable.Rows.{reads}
use Rattle.sdf_plan.specs.ClassTable.Shown.{grant_shown}
use Rattle.sdf_plan.proofs.class_table.net.receivers.Given as goal

abbrev pub invariant-loop-client : goal.invariant-loop-client
invariant-loop-client l =
    map grant_shown l.must.items ≡ reads l.rx_virt ∷ map (λ (c : NetClient). reads c.copier) (take l.client-index l.clients)
