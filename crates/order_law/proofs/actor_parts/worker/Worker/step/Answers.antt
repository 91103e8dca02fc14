use Rattle.order_law.proofs.Resting.{due_any}
use Rattle.order_law.proofs.actor_parts.worker.Worker.step.Goals as goal

pub returns-in-Ok-clause-due : goal.returns-in-Ok-clause-due
returns-in-Ok-clause-due g c = due_any (g.W.WildWires.wild c.args.wires.now) c.args.self.now.actor c.step.new.event c.step.new.self c.requires.may (c.turn_law.ensures.sorts c.args.self.now.actor) (λ calm. c.turn_law.ensures.turned c.args.self.now.actor c.step.new.event c.step.new.self calm c.in-Ok.ensures.turned) (c.turn_law.ensures.rests c.args.self.now.actor)
