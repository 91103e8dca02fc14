use Rattle.order_law.proofs.ActorParts.Giving.{gives_consumer}
use Rattle.order_law.proofs.actor_parts.opening.give_consumer.Goals as goal

pub returns : goal.returns
returns c = gives_consumer c.args.actor (c.args.queue, c.args.end) c.args.parts.now.items c.index_mut.result.now c.requires c.index_mut.ensures.value c.push.new.self c.in_ok-push.ensures.items
