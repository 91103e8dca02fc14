use Rattle.std.proofs.Common.{◌≡◌, ◌++◌, length, map}
use Rattle.std.specs.Vec.Iter.{into_iter_items, into_iter_len}
use Rattle.order_law.specs.ActorParts.Placing.{all_placed}
use Rattle.order_law.specs.ActorParts.Given.{Kept}
use Rattle.order_law.proofs.actor_parts.finishing.finish_apart.Given as goal

abbrev pub invariant-loop-worker : goal.invariant-loop-worker
invariant-loop-worker l = record {
  split : l.yielded ++ into_iter_items l.worker-iterator ≡ l.fn.parts.actors.items;
  len : length (into_iter_items l.worker-iterator) ≡ into_iter_len l.worker-iterator;
  actors : l.actors.items ≡ map (λ (p : Kept). p.0.actor) l.yielded;
  producers : l.producers.items ≡ all_placed (λ (p : Kept). p.1.items) l.yielded l.initial.producers.items;
  consumers : l.consumers.items ≡ all_placed (λ (p : Kept). p.2.items) l.yielded l.initial.consumers.items;
  many_producers : length l.producers.items ≡ length l.initial.producers.items;
  many_consumers : length l.consumers.items ≡ length l.initial.consumers.items;
}
