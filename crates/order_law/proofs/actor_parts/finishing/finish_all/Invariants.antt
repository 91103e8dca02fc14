use Rattle.std.proofs.Common.{◌≡◌, ◌≤◌, ◌++◌, ℕ, Some, length, slice_get}
use Rattle.std.specs.Vec.Iter.{into_iter_items, into_iter_len}
use Rattle.spsc_queue.specs.Known.Ends.{EndIs, RingIs, EndedIs}
use Rattle.order_law.specs.ActorParts.Finished.{HasEnded}
use Rattle.order_law.proofs.actor_parts.finishing.finish_all.Given as goal

abbrev pub invariant-loop-ring : goal.invariant-loop-ring
invariant-loop-ring l = record {
  split : l.yielded ++ into_iter_items l.ring-iterator ≡ l.fn.rings.items;
  len : length (into_iter_items l.ring-iterator) ≡ into_iter_len l.ring-iterator;
  many : length l.all.items ≡ length l.yielded;
  producers : (n : ℕ) → length l.yielded ≤ n → slice_get l.producers.items n ≡ slice_get l.fn.producers.items n;
  consumers : (n : ℕ) → length l.yielded ≤ n → slice_get l.consumers.items n ≡ slice_get l.fn.consumers.items n;
  each : (n : ℕ) (ring : RingIs) (p c : EndIs) (e : EndedIs) → slice_get l.yielded n ≡ Some ring → slice_get l.fn.producers.items n ≡ Some (Some p) → slice_get l.fn.consumers.items n ≡ Some (Some c) → slice_get l.all.items n ≡ Some e → HasEnded ring p c e;
}
