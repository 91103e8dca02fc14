use Rattle.std.proofs.Common.{◌≡◌, ◌++◌, false, length}
use Rattle.plain_wires.proofs.queue.PlainQueue.adopt.Given as goal

-- what stands there and what is left still are what was left at first; all else is of the row
abbrev pub invariant-loop-entry : goal.invariant-loop-entry
invariant-loop-entry l = record {
  entries : l.queue-inside.cargo.entries ++ l.ended.left ≡ l.fn.ended.left;
  capacity : l.queue-inside.cargo.capacity ≡ l.row.capacity;
  kind : l.queue-inside.kind ≡ l.row.kind;
  producer : l.queue-inside.producer.0 ≡ l.row.producer.0;
  consumer : l.queue-inside.consumer.0 ≡ l.row.consumer.0;
  saw : l.queue-inside.saw ≡ false;
  free : l.queue-inside.free ≡ false;
  forward : l.ended.forward ≡ l.fn.ended.forward;
  backward : l.ended.backward ≡ l.fn.ended.backward;
  ends : (l.ended.producer ≡ l.fn.ended.producer) × (l.ended.consumer ≡ l.fn.ended.consumer);
  stored : l.queue-inside.stored ≡ false;
}

abbrev pub decreases-loop-entry : goal.decreases-loop-entry
decreases-loop-entry l = length l.ended.left
