use Rattle.std.proofs.Common.{◌+◌, ◌*◌, length, refl, arith}
use Rattle.std.proofs.lemmas.Option.{slice_get_read}
use Rattle.cast_core.proofs.Growing.{none_yet}
use Rattle.cast_core.proofs.jobs.serial_client_job.Goals as goal

pub loop-c-preserved : goal.loop-c-preserved
loop-c-preserved c =
    let rows = c.args.rows.now in
    let n = c.args.first + 4 + 2 * c.loop-c.c in
    let lt = c.loop-c-test.true in
    let room = c.requires.rows in
    let there = slice_get_read rows (length rows) n c.index-rows-first.result refl (omega (arith, lt, room)) c.index-rows-first.is in
    none_yet rows c.args.first c.loop-c.c c.args.actor n c.index-rows-first.result c.loop-c.invariant refl there (rw c.index-rows-first.is c.if-rows-first.false)

pub returns : goal.returns
returns c = λ j lt. let end = c.loop-c-test.false in c.loop-c.invariant j (omega (arith, lt, end))
