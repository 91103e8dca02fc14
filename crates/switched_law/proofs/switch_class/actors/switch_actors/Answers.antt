use Rattle.std.proofs.Common.{◌≡◌, length, subst, arith}
use Rattle.switched_law.specs.SwitchClass.Starting.{AreClients}
use Rattle.switched_law.proofs.SwitchClass.Beginning.{one_more, are_made, begins}
use Rattle.switched_law.proofs.switch_class.actors.switch_actors.Goals as goal

pub loop-port-preserved : goal.loop-port-preserved
loop-port-preserved c = (one_more c.args.ports.now c.loop-port.port c.loop-port.actors.items _ c.in_ok-client.field-0 c.loop-port.invariant.0 c.in_ok-client.ensures c.in_ok-push.ensures.items, omega arith)

pub returns-clause-made : goal.returns-clause-made
returns-clause-made c =
    let all : c.loop-port.port ≡ length c.args.ports.now.macs = omega (arith, c.loop-port.invariant.1, c.len-count.ensures) in
    are_made c.args.ports.now c.requires c.loop-port.actors.items (subst (λ n. AreClients c.args.ports.now n c.loop-port.actors.items) all c.loop-port.invariant.0) c.in_ok-switch.field-0 c.in_ok-switch.ensures _ c.in_ok-push-2.ensures.items

pub returns-clause-begins : goal.returns-clause-begins
returns-clause-begins c = λ rows q.
    let all : c.loop-port.port ≡ length c.args.ports.now.macs = omega (arith, c.loop-port.invariant.1, c.len-count.ensures) in
    begins c.args.ports.now c.requires c.loop-port.actors.items (subst (λ n. AreClients c.args.ports.now n c.loop-port.actors.items) all c.loop-port.invariant.0) c.in_ok-switch.field-0 c.in_ok-switch.ensures _ c.in_ok-push-2.ensures.items rows q
