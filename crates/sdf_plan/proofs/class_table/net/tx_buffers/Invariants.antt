use Rattle.std.proofs.Common.{◌≡◌, ◌≤◌, ◌*◌, take, sum_by}
use Rattle.sdf_plan.specs.declared.plan.NetClient.{NetClient}
use Rattle.sdf_plan.proofs.class_table.net.tx_buffers.Given as goal

abbrev pub invariant-loop-client : goal.invariant-loop-client
invariant-loop-client l =
    (l.total ≡ sum_by (λ (c : NetClient). c.tx_buffers) (take l.client-index l.clients)) × (l.total ≤ l.client-index * 18446744073709551615)
