use Rattle.std.proofs.Common.{◌∙◌, ap}
use Rattle.wire_core.specs.Queues.{starts}
use Rattle.system_core.proofs.Fitting.{are_sized, start_goes}
use Rattle.system_core.proofs.system.System.start.Goals as goal

pub new-requires : goal.new-requires
new-requires c = rw c.deref.ensures.value (are_sized c.args.rows.items c.requires.seated.numbered c.requires.seated.places)

pub begin-requires : goal.begin-requires
begin-requires c =
    let goes = start_goes c.args.rows.items c.args.pools.items c.args.actors.items c.args.net c.args.serial c.args.blk c.requires.seated c.requires.pooled in
    rw (c.in_ok-world.ensures ∙ ap starts c.deref.ensures.value, c.of.ensures, c.new-none.ensures.items) goes
