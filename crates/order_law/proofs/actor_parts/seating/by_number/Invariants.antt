use Rattle.std.proofs.Common.{◌≡◌, ◌++◌, length}
use Rattle.std.specs.Vec.Iter.{into_iter_items, into_iter_len}
use Rattle.order_law.specs.ActorParts.Numbered.{numbered}
use Rattle.order_law.proofs.actor_parts.seating.by_number.Given as goal

abbrev pub invariant-loop-place : goal.invariant-loop-place
invariant-loop-place g l = record {
  split : l.yielded ++ into_iter_items l.place-iterator ≡ l.fn.places.items;
  len : length (into_iter_items l.place-iterator) ≡ into_iter_len l.place-iterator;
  many : l.number ≡ length l.yielded;
  ends : l.ends.items ++ numbered l.number (into_iter_items l.place-iterator) ≡ numbered 0 l.fn.places.items;
}
