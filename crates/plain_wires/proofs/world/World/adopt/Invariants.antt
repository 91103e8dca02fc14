use Rattle.std.proofs.Common.{◌≡◌, ◌++◌, length}
use Rattle.std.specs.Vec.Iter.{into_iter_items, into_iter_len}
use Rattle.plain_wires.specs.Adopted.{all_adopted}
use Rattle.plain_wires.proofs.world.World.adopt.Given as goal

abbrev pub invariant-loop-ring : goal.invariant-loop-ring
invariant-loop-ring l = record {
  split : l.yielded ++ into_iter_items l.ring-iterator ≡ l.fn.ended.items;
  len : length (into_iter_items l.ring-iterator) ≡ into_iter_len l.ring-iterator;
  many : length l.queues.items ≡ length l.yielded;
  queues : l.queues.items ≡ all_adopted l.rows l.yielded;
}
