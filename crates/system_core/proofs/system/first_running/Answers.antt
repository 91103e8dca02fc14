use Rattle.std.proofs.Common.{arith}
use Rattle.system_core.specs.States.{history_of, names_left}
use Rattle.system_core.proofs.Starting.{flag_start, flags_many}
use Rattle.system_core.proofs.system.first_running.Goals as goal
use Rattle.system_core.proofs.system.first_running.Goals.{then-not-is_idle, else-not-is_idle}
use Rattle.player_kit.proofs.Listing.{list_added, list_skipped, list_room, list_whole}

pub add-requires : goal.add-requires
add-requires c =
    let n = flags_many (history_of c.args.rows.now c.args.past.now.value.items) c.args.rows.now (names_left 0 c.args.past.now.value.items) c.args.actors.now in
    let r = c.loop-k.invariant.room in
    list_room _ c.loop-k.k c.loop-k.running.list c.loop-k.running.room _ (flag_start (history_of c.args.rows.now c.args.past.now.value.items) c.args.rows.now (names_left 0 c.args.past.now.value.items) c.args.actors.now c.args.world.now c.loop-k.k c.index-actors-k.result c.is_idle.result c.requires c.loop-k-test.true c.index-actors-k.is c.is_idle.ensures) c.loop-k.invariant.list (omega arith)

pub loop-k-preserved : goal.loop-k-preserved
loop-k-preserved c =
    let flag = flag_start (history_of c.args.rows.now c.args.past.now.value.items) c.args.rows.now (names_left 0 c.args.past.now.value.items) c.args.actors.now c.args.world.now c.loop-k.k c.index-actors-k.result c.is_idle.result c.requires c.loop-k-test.true c.index-actors-k.is c.is_idle.ensures in
    elim c.if-not-is_idle.branch [
      | then-not-is_idle w ↦ record { list = rw (w.running-is, w.add.ensures) (list_added _ c.loop-k.k c.loop-k.running.list (rw w.if-not-is_idle.true at flag) c.loop-k.invariant.list); room = rw (w.running-is, w.add.ensures) c.loop-k.invariant.room }
      | else-not-is_idle w ↦ record { list = rw w.running-is (list_skipped _ c.loop-k.k c.loop-k.running.list (rw w.if-not-is_idle.false at flag) c.loop-k.invariant.list); room = rw w.running-is c.loop-k.invariant.room }
    ]

pub returns-clause-list : goal.returns-clause-list
returns-clause-list c = let n = flags_many (history_of c.args.rows.now c.args.past.now.value.items) c.args.rows.now (names_left 0 c.args.past.now.value.items) c.args.actors.now in list_whole _ c.loop-k.k c.loop-k.running.list (omega arith) c.loop-k.invariant.list
