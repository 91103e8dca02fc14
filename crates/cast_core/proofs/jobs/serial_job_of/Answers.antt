use Rattle.std.proofs.Common.{◌+◌, length, refl, arith}
use Rattle.std.proofs.lemmas.Option.{slice_get_read}
use Rattle.cast_core.proofs.Growing.{no_serial_job, where_no_serial}
use Rattle.cast_core.proofs.jobs.serial_job_of.Goals as goal

pub returns-else-rows-at-4 : goal.returns-else-rows-at-4
returns-else-rows-at-4 c =
    let rows = c.args.rows.now in
    let first = c.args.first in
    let room = c.requires.rows in
    where_no_serial rows first c.args.clients c.args.actor c.serial_client_job.result
    (no_serial_job rows first c.args.clients c.args.actor c.index-rows-at.result c.index-rows-at-else-rows-at.result c.index-rows-at-else-rows-at-2.result c.index-rows-at-else-rows-at-3.result
    (slice_get_read rows (length rows) first c.index-rows-at.result refl (omega (arith, room)) c.index-rows-at.is)
    (slice_get_read rows (length rows) first c.index-rows-at-else-rows-at.result refl (omega (arith, room)) c.index-rows-at-else-rows-at.is)
    (slice_get_read rows (length rows) (first + 2) c.index-rows-at-else-rows-at-2.result refl (omega (arith, room)) c.index-rows-at-else-rows-at-2.is)
    (slice_get_read rows (length rows) (first + 3) c.index-rows-at-else-rows-at-3.result refl (omega (arith, room)) c.index-rows-at-else-rows-at-3.is)
    (rw c.index-rows-at.is c.if-rows-at.false) (rw c.index-rows-at-else-rows-at.is c.if-rows-at-2.false) (rw c.index-rows-at-else-rows-at-2.is c.if-rows-at-3.false) (rw c.index-rows-at-else-rows-at-3.is c.if-rows-at-4.false))
    c.serial_client_job.ensures
