use Rattle.std.proofs.Common.{◌+◌, ◌*◌, length, refl, arith}
use Rattle.std.proofs.lemmas.Option.{slice_get_read}
use Rattle.cast_core.proofs.Growing.{no_client_yet}
use Rattle.cast_core.proofs.jobs.net_client_job.Goals as goal

pub loop-c-preserved : goal.loop-c-preserved
loop-c-preserved c =
    let rows = c.args.rows.now in
    let k = c.loop-c.c in
    let lt = c.loop-c-test.true in
    let room = c.requires.rows in
    let first = slice_get_read rows (length rows) (8 + 6 * k) c.index-rows-at.result refl (omega (arith, lt, room)) c.index-rows-at.is in
    let second = slice_get_read rows (length rows) (8 + 6 * k + 2) c.index-rows-at-in-loop-c.result refl (omega (arith, lt, room)) c.index-rows-at-in-loop-c.is in
    no_client_yet rows k c.args.actor (8 + 6 * k) (8 + 6 * k + 2) c.index-rows-at.result c.index-rows-at-in-loop-c.result c.loop-c.invariant refl first (rw c.index-rows-at.is c.if-rows-at.false)
    (omega arith) second (rw c.index-rows-at-in-loop-c.is c.if-rows-at-2.false)

pub returns : goal.returns
returns c = λ j lt. let end = c.loop-c-test.false in c.loop-c.invariant j (omega (arith, lt, end))
