use Rattle.std.proofs.Common.{◌≡◌}
use Rattle.std.specs.Slots.{slots_filled, slots_len, slots_items}
use Rattle.std.specs.VecDeque.{deque_capacity}
use Rattle.spsc_queue.proofs.Emptying.{Taking}
use Rattle.spsc_queue.proofs.ended.take_left.Given as goal

abbrev pub invariant-loop-k : goal.invariant-loop-k
invariant-loop-k l = Taking l.capacity l.head l.k (slots_items l.closed.slots) (slots_items l.fn.closed.slots) (slots_filled l.closed.slots) l.left.items × (slots_len l.closed.slots ≡ l.capacity) × (deque_capacity l.left ≡ l.capacity)
