use Rattle.std.proofs.Common.{◌<◌, ap, ◌∙◌, length}
use Rattle.wire_core.specs.Queues.{end_at}
use Rattle.actor_set.specs.Laws.Kinds.{manner_of, drop_seats}
use Rattle.actor_set.proofs.LawsLemmas.Rounds.{may_is}
use Rattle.small_rows.proofs.Acting.{wrapped_acts}
use Rattle.small_rows.proofs.wrapping.WrappedSmallActor.step.Goals as goal

pub step-requires-clause-fits : goal.step-requires-clause-fits
step-requires-clause-fits c = c.requires.0

pub step-requires-clause-may : goal.step-requires-clause-may
step-requires-clause-may c = may_is (λ n. n < length c.args.world.now) c.args.self.now.actor c.requires.1

pub returns-clause-fits : goal.returns-clause-fits
returns-clause-fits c = (c.step.ensures.fits, ap manner_of c.step.ensures.part ∙ c.requires.1, ap drop_seats c.step.ensures.part ∙ c.requires.2)

pub returns-clause-acts : goal.returns-clause-acts
returns-clause-acts c = wrapped_acts c.args.world.now c.step.new.wires (end_at c.args.world.now) (end_at c.step.new.wires) c.args.self.now c.step.new.self c.step.new.event c.step.result c.requires c.step.ensures.fits (ap drop_seats c.step.ensures.part ∙ c.requires.2) c.step.ensures.stepped c.step.ensures.turned c.step.ensures.part
