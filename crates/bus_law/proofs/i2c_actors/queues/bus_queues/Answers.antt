use Rattle.std.proofs.Common.{◌≡◌, ◌+◌, arith, subst}
use Rattle.bus_law.specs.I2cActors.Queues.{Added}
use Rattle.bus_law.proofs.I2cActors.Queueing.{SoFar, one_more, all_queues}
use Rattle.bus_law.proofs.i2c_actors.queues.bus_queues.Goals as goal

pub loop-client-preserved : goal.loop-client-preserved
loop-client-preserved c = (one_more c.loop-client.client c.args.clients c.loop-client.queues.items _ c.loop-client.invariant.0 c.in_ok-add_pair.ensures, omega arith)

pub returns : goal.returns
returns c =
    let same : c.loop-client.client ≡ c.args.clients = omega (arith, c.loop-client.invariant.1) in
    let two : (c.args.clients + 1) + 1 ≡ c.args.clients + 2 = omega arith in
    all_queues c.args.clients c.loop-client.queues.items _ _ (subst (λ n. SoFar n c.args.clients c.loop-client.queues.items) same c.loop-client.invariant.0) c.in_ok-add_pair-2.ensures (subst (λ n. Added (c.args.clients + 1) n 16 c.add_pair-2.new.queues.items c.add_pair-3.new.queues.items) two c.in_ok-add_pair-3.ensures)
