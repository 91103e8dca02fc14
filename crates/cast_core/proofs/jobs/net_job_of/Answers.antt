use Rattle.std.proofs.Common.{length, refl, arith}
use Rattle.std.proofs.lemmas.Option.{slice_get_read}
use Rattle.cast_core.proofs.Growing.{no_job, where_none}
use Rattle.cast_core.proofs.jobs.net_job_of.Goals as goal

pub returns-else-rows-actor-4 : goal.returns-else-rows-actor-4
returns-else-rows-actor-4 c =
    let rows = c.args.rows.now in
    let room = c.requires.rows in
    where_none rows c.args.clients c.args.actor c.net_client_job.result
    (no_job rows c.args.clients c.args.actor c.index-rows-0.result c.index-rows-0-else-rows-actor.result c.index-rows-4.result c.index-rows-6.result
    (slice_get_read rows (length rows) 0 c.index-rows-0.result refl (omega (arith, room)) c.index-rows-0.is)
    (slice_get_read rows (length rows) 0 c.index-rows-0-else-rows-actor.result refl (omega (arith, room)) c.index-rows-0-else-rows-actor.is)
    (slice_get_read rows (length rows) 4 c.index-rows-4.result refl (omega (arith, room)) c.index-rows-4.is)
    (slice_get_read rows (length rows) 6 c.index-rows-6.result refl (omega (arith, room)) c.index-rows-6.is)
    (rw c.index-rows-0.is c.if-rows-actor.false) (rw c.index-rows-0-else-rows-actor.is c.if-rows-actor-2.false) (rw c.index-rows-4.is c.if-rows-actor-3.false) (rw c.index-rows-6.is c.if-rows-actor-4.false))
    c.net_client_job.ensures
