use Rattle.std.proofs.Common.{◌≡◌, Some, slice_get, subst, arith}
use Rattle.std.proofs.lemmas.Grind.{common_steps}
use Rattle.net_virt_tx.proofs.Holding.{fresh_push}
use Rattle.net_virt_tx.proofs.traffic.served.Goals as goal

pub loop-client-preserved : goal.loop-client-preserved
loop-client-preserved c = (grind (arith, common_steps), λ k x at. fresh_push c.loop-client.served.items c.in_ok-new.field-0 c.loop-client.invariant.1 c.in_ok-new.ensures.fresh k x (subst (λ l. slice_get l k ≡ Some x) (grind (arith, common_steps)) at))
