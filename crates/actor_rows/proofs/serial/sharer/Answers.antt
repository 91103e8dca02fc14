use Rattle.std.proofs.Common.{arith}
use Rattle.actor_rows.proofs.Fitting.{new_sharer}
use Rattle.actor_rows.proofs.serial.sharer.Goals as goal

pub new-requires-clause-some : goal.new-requires-clause-some
new-requires-clause-some c = let n = c.in_ok-takers.ensures.many in omega (arith, n)

pub new-requires-clause-few : goal.new-requires-clause-few
new-requires-clause-few c = let n = c.in_ok-takers.ensures.many in omega (arith, n)

pub returns : goal.returns
returns c = new_sharer c.in_ok-takers.takers.items c.in_ok-virt.virt c.in_ok-takers.ensures.queues c.in_ok-takers.ensures.many c.in_ok-virt.ensures.new
