use Rattle.std.proofs.Common.{◌≡◌, ◌+◌, drop, sum_by}
use Rattle.sdf_plan.specs.declared.plan.NetClient.{NetClient}
use Rattle.expect_core.proofs.counts.client_buffers.Given as goal

abbrev pub invariant-loop-client : goal.invariant-loop-client
invariant-loop-client l = l.buffers + sum_by (λ (c : NetClient). c.rx_buffers) (drop l.client-index l.clients) ≡ sum_by (λ (c : NetClient). c.rx_buffers) l.clients
