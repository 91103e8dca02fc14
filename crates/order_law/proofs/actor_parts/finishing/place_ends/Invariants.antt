use Rattle.std.proofs.Common.{◌≡◌, length}
use Rattle.std.specs.Vec.Iter.{into_iter_items, into_iter_len}
use Rattle.order_law.specs.ActorParts.Placing.{placed, AreWithin}
use Rattle.order_law.proofs.actor_parts.finishing.place_ends.Given as goal

abbrev pub invariant-loop-queue : goal.invariant-loop-queue
invariant-loop-queue g l = record {
  len : length (into_iter_items l.queue-iterator) ≡ into_iter_len l.queue-iterator;
  same : placed (into_iter_items l.queue-iterator) l.places.items ≡ placed l.fn.ends.items l.fn.places.items;
  long : length l.places.items ≡ length l.fn.places.items;
  within : AreWithin (length l.fn.places.items) (into_iter_items l.queue-iterator);
}
