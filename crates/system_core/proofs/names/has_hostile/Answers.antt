use Rattle.std.proofs.Common.{sym, refl, ◌∙◌, arith}
use Rattle.std.proofs.lemmas.Option.{slice_get_read}
use Rattle.system_core.proofs.Keeping.{quiet_calm, quiet_more, quiet_whole}
use Rattle.system_core.proofs.names.has_hostile.Goals as goal

pub loop-actor-preserved : goal.loop-actor-preserved
loop-actor-preserved c = quiet_more c.args.actors.now c.loop-actor.actor-index c.actor-item.result (slice_get_read c.args.actors.now _ c.loop-actor.actor-index c.actor-item.result refl c.loop-actor-test.true c.actor-item.is) c.loop-actor.invariant (sym c.is_hostile.ensures ∙ c.if-is_hostile.false)

pub returns : goal.returns
returns c = λ h. quiet_calm c.args.actors.now (quiet_whole c.args.actors.now c.loop-actor.actor-index (omega arith) c.loop-actor.invariant)
