use Rattle.std.proofs.Common.{◌∙◌, subst}
use Rattle.small_rows.specs.Wrappings.{AreWaiting}
use Rattle.cast_core.proofs.HostileLemmas.{calm_cast}
use Rattle.cast_law.proofs.Calming.{all_calm}
use Rattle.system_core.proofs.Built.{layout_queues, are_seated}
use Rattle.small_rows.proofs.Seats.{wrapped_begin}
use Rattle.small_rows.proofs.playing.small_at.Goals as goal

pub new-requires : goal.new-requires
new-requires c =
    wrapped_begin c.queues.result.now c.in_ok-cast.cast.items c.in_ok-actors.actors.items
    (are_seated c.args.plan.now c.requires.valid c.args.trace.now c.requires.read c.in_ok-cast.cast.items c.in_ok-cast.ensures c.queues.result.now (c.queues.ensures ∙ layout_queues c.args.plan.now c.args.layout.now c.requires.layout))
    (all_calm c.args.plan.now c.args.trace.now c.in_ok-cast.cast.items (calm_cast c.args.plan.now c.args.trace.now c.in_ok-cast.cast.items c.requires.friendly c.in_ok-cast.ensures))
    (subst AreWaiting c.deref.ensures.value (c.all_wait.ensures c.if-not-all_wait.false))
    c.in_ok-actors.ensures
