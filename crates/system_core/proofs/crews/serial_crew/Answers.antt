use Rattle.std.proofs.Common.{◌+◌, subst, arith, ◌∙◌}
use Rattle.cast_core.proofs.Joining.{first_few}
use Rattle.system_core.specs.Crews.{AreTakers}
use Rattle.system_core.proofs.Crewing.{rows_enough, serial_is, serial_count}
use Rattle.system_core.proofs.crews.serial_crew.Goals as goal

pub first_serial-first-requires : goal.first_serial-first-requires
first_serial-first-requires c = let few = first_few c.args.plan.now c.requires.valid in omega (arith, few)

pub overflow_cast-len : goal.overflow_cast-len
overflow_cast-len c = let few = serial_count c.args.plan.now c.requires.valid c.args.rows.now c.requires.rows c.in-Some.serial c.in-Some.is in let n = c.len.ensures in omega (arith, few, n)

pub serial_clients-requires : goal.serial_clients-requires
serial_clients-requires c = let room = (rows_enough c.args.plan.now c.requires.valid c.args.rows.now c.requires.rows).serial c.in-Some.serial c.in-Some.is in let n = c.len.ensures in let first = c.first_serial-first.ensures in omega (arith, room, n, first)

pub taker-requires : goal.taker-requires
taker-requires c = let room = (rows_enough c.args.plan.now c.requires.valid c.args.rows.now c.requires.rows).serial c.in-Some.serial c.in-Some.is in let first = c.first_serial-first.ensures in omega (arith, room, first)

pub returns-in_ok-clients-in-Some : goal.returns-in_ok-clients-in-Some
returns-in_ok-clients-in-Some c =
    c.new.ensures ∙ serial_is c.args.plan.now c.requires.valid c.args.rows.now c.requires.rows c.in-Some.serial c.in-Some.is c.first_serial-first.result c.first_serial-first.ensures c.in_ok-clients-in-Some.clients.items
    (subst (λ n. AreTakers c.args.rows.now (c.first_serial-first.result + 4) 2 n c.in_ok-clients-in-Some.clients.items) c.len.ensures c.in_ok-clients-in-Some.ensures) c.taker.result c.taker.ensures
