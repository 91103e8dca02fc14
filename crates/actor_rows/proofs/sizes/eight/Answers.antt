use Rattle.std.proofs.lemmas.Result.{IfOk-weaker}
use Rattle.cargo_core.specs.declared.item.QueueKind.TheVariants as Kind
use Rattle.base_rows.specs.Hands.{AreQueues}
use Rattle.actor_rows.specs.Sizes.{AreFedEight}
use Rattle.actor_rows.proofs.Sizing.{new_eight}
use Rattle.actor_rows.proofs.sizes.eight.Goals as goal

pub returns : goal.returns
returns c = IfOk-weaker c.queues_of.result (λ w. AreQueues Kind.Net 8 w) AreFedEight (λ w h. new_eight w h) c.queues_of.ensures
