use Rattle.std.proofs.Common.{arith}
use Rattle.switched_law.proofs.SwitchClass.Queueing.{one_more, all_queues}
use Rattle.switched_law.proofs.switch_class.queues.switch_queues.Goals as goal

pub loop-port-preserved : goal.loop-port-preserved
loop-port-preserved c = (one_more c.loop-port.port c.args.ports c.loop-port.queues.items _ c.loop-port.invariant.0 c.in_ok-add_port.ensures, omega arith)

pub returns : goal.returns
returns c = all_queues c.loop-port.port c.args.ports c.loop-port.queues.items (omega (arith, c.loop-port.invariant.1)) c.loop-port.invariant.0
