use Rattle.std.proofs.Common.{◌+◌, ◌*◌, length, refl, arith}
use Rattle.std.proofs.lemmas.Option.{slice_get_read}
use Rattle.cast_core.proofs.Growing.{no_asker_yet}
use Rattle.cast_core.proofs.jobs.blk_client_of.Goals as goal

pub loop-c-preserved : goal.loop-c-preserved
loop-c-preserved c =
    let rows = c.args.rows.now in
    let n = c.args.first + 4 + 2 * c.loop-c.c in
    let lt = c.loop-c-test.true in
    let room = c.requires.rows in
    let there = slice_get_read rows (length rows) n c.index-rows-first.result refl (omega (arith, lt, room)) c.index-rows-first.is in
    no_asker_yet rows c.args.first c.loop-c.c c.args.actor n c.index-rows-first.result c.loop-c.invariant refl there (rw c.index-rows-first.is c.if-rows-first.false)

pub unreachable-requires : goal.unreachable-requires
unreachable-requires c = let lt = c.requires.some.1.0 in let end = c.loop-c-test.false in c.loop-c.invariant c.requires.some.0 (omega (arith, lt, end)) c.requires.some.1.1
