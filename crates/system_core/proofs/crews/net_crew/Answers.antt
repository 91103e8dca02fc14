use Rattle.std.proofs.Common.{subst, arith, ◌∙◌}
use Rattle.system_core.specs.Crews.{AreTakers}
use Rattle.system_core.proofs.Crewing.{rows_enough, net_is, net_count}
use Rattle.system_core.proofs.crews.net_crew.Goals as goal

pub overflow_cast-len : goal.overflow_cast-len
overflow_cast-len c = let few = net_count c.args.plan.now c.requires.valid c.args.rows.now c.requires.rows c.in-Some.net c.in-Some.is in let n = c.len.ensures in omega (arith, few, n)

pub net_clients-requires : goal.net_clients-requires
net_clients-requires c = let room = (rows_enough c.args.plan.now c.requires.valid c.args.rows.now c.requires.rows).net c.in-Some.net c.in-Some.is in let n = c.len.ensures in omega (arith, room, n)

pub taker-requires : goal.taker-requires
taker-requires c = let room = (rows_enough c.args.plan.now c.requires.valid c.args.rows.now c.requires.rows).net c.in-Some.net c.in-Some.is in omega (arith, room)

pub returns-in_ok-clients-in-Some : goal.returns-in_ok-clients-in-Some
returns-in_ok-clients-in-Some c =
    c.new.ensures ∙ net_is c.args.plan.now c.requires.valid c.args.rows.now c.requires.rows c.in-Some.net c.in-Some.is c.in_ok-clients-in-Some.clients.items
    (subst (λ n. AreTakers c.args.rows.now 10 6 n c.in_ok-clients-in-Some.clients.items) c.len.ensures c.in_ok-clients-in-Some.ensures) c.taker.result c.taker.ensures
