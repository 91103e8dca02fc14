use Rattle.std.proofs.lemmas.Result.{IfOk-weaker}
use Rattle.cargo_core.specs.declared.item.QueueKind.TheVariants as Kind
use Rattle.base_rows.specs.Hands.{AreQueues}
use Rattle.actor_rows.specs.Sizes.{AreFed}
use Rattle.actor_rows.proofs.Sizing.{new_fed}
use Rattle.actor_rows.proofs.sizes.fed.Goals as goal

pub returns : goal.returns
returns c = IfOk-weaker c.queues_of.result (λ w. AreQueues Kind.Net 4 w) AreFed (λ w h. new_fed w h) c.queues_of.ensures
