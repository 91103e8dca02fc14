use Rattle.std.proofs.Common.{arith, ap, ◌∙◌, refl, length}
use Rattle.std.proofs.lemmas.Option.{slice_get_read}
use Rattle.wire_core.specs.Queues.{end_at, starts}
use Rattle.play_core.specs.Runs.{places_from}
use Rattle.small_system.specs.Tales.{flags_in}
use Rattle.small_system.proofs.Keeping.{flags_count}
use Rattle.small_system.proofs.Listing.{flag_start}
use Rattle.small_system.proofs.small.first_running.Goals as goal
use Rattle.small_system.proofs.small.first_running.Goals.{then-not-is_idle, else-not-is_idle}
use Rattle.player_kit.proofs.Listing.{list_added, list_skipped, list_room, list_whole}

pub is_idle-requires : goal.is_idle-requires
is_idle-requires g c = (end_at (starts c.args.rows.now), c.requires.begins.fits c.loop-k.k c.index-actors-k.result (slice_get_read c.args.actors.now _ c.loop-k.k c.index-actors-k.result refl c.loop-k-test.true c.index-actors-k.is))

pub add-requires : goal.add-requires
add-requires g c =
    let n = flags_count g.A.SmallActor.means c.args.world.now 0 c.args.actors.now in
    let r = c.loop-k.invariant.room in
    list_room _ c.loop-k.k c.loop-k.running.list c.loop-k.running.room _ (flag_start g.A.SmallActor.means c.args.world.now c.args.actors.now c.loop-k.k c.index-actors-k.result c.is_idle.result c.loop-k-test.true c.index-actors-k.is c.is_idle.ensures) c.loop-k.invariant.list (omega arith)

pub loop-k-preserved : goal.loop-k-preserved
loop-k-preserved g c =
    let flag = flag_start g.A.SmallActor.means c.args.world.now c.args.actors.now c.loop-k.k c.index-actors-k.result c.is_idle.result c.loop-k-test.true c.index-actors-k.is c.is_idle.ensures in
    elim c.if-not-is_idle.branch [
      | then-not-is_idle w ↦ record { list = rw (w.running-is, w.add.ensures) (list_added _ c.loop-k.k c.loop-k.running.list (rw w.if-not-is_idle.true at flag) c.loop-k.invariant.list); room = rw (w.running-is, w.add.ensures) c.loop-k.invariant.room }
      | else-not-is_idle w ↦ record { list = rw w.running-is (list_skipped _ c.loop-k.k c.loop-k.running.list (rw w.if-not-is_idle.false at flag) c.loop-k.invariant.list); room = rw w.running-is c.loop-k.invariant.room }
    ]

pub returns-clause-list : goal.returns-clause-list
returns-clause-list g c =
    let n = flags_count g.A.SmallActor.means c.args.world.now 0 c.args.actors.now in
    list_whole _ c.loop-k.k c.loop-k.running.list (omega arith) c.loop-k.invariant.list ∙ ap (λ w. places_from 0 (flags_in g.A.SmallActor.means w 0 c.args.actors.now)) c.requires.starts
