use Rattle.std.proofs.Common.{◌+◌, subst, arith, ◌∙◌}
use Rattle.cast_core.proofs.Joining.{first_blk_few}
use Rattle.system_core.specs.Crews.{AreTakers}
use Rattle.system_core.proofs.Crewing.{rows_enough, blk_is, blk_count}
use Rattle.system_core.proofs.crews.blk_crew.Goals as goal

pub first_blk-first-requires : goal.first_blk-first-requires
first_blk-first-requires c = let few = first_blk_few c.args.plan.now c.requires.valid in omega (arith, few)

pub overflow_cast-len : goal.overflow_cast-len
overflow_cast-len c = let few = blk_count c.args.plan.now c.requires.valid c.args.rows.now c.requires.rows c.in-Some.blk c.in-Some.is in let n = c.len.ensures in omega (arith, few, n)

pub blk_clients-requires : goal.blk_clients-requires
blk_clients-requires c = let room = (rows_enough c.args.plan.now c.requires.valid c.args.rows.now c.requires.rows).blk c.in-Some.blk c.in-Some.is in let n = c.len.ensures in let first = c.first_blk-first.ensures in omega (arith, room, n, first)

pub taker-requires : goal.taker-requires
taker-requires c = let room = (rows_enough c.args.plan.now c.requires.valid c.args.rows.now c.requires.rows).blk c.in-Some.blk c.in-Some.is in let first = c.first_blk-first.ensures in omega (arith, room, first)

pub returns-in_ok-clients-in-Some : goal.returns-in_ok-clients-in-Some
returns-in_ok-clients-in-Some c =
    c.new.ensures ∙ blk_is c.args.plan.now c.requires.valid c.args.rows.now c.requires.rows c.in-Some.blk c.in-Some.is c.first_blk-first.result c.first_blk-first.ensures c.in_ok-clients-in-Some.clients.items
    (subst (λ n. AreTakers c.args.rows.now (c.first_blk-first.result + 5) 2 n c.in_ok-clients-in-Some.clients.items) c.len.ensures c.in_ok-clients-in-Some.ensures) c.taker.result c.taker.ensures
