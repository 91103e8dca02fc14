-- The queue of the laws that one queue stands for.
use Rattle.std.specs.Prelude.{◌≡◌, ◌<◌, true, length, All}
use Rattle.cargo_core.specs.Items.{kind_of}
use Rattle.wire_core.specs.Queues.{Queue}
use Rattle.plain_wires.specs.declared.queue.PlainQueue.TheInside.{Inside}

-- the queue that it stands for
abbrev pub queue_of : Inside → Queue
queue_of l = record {
  kind = l.kind;
  capacity = l.cargo.capacity;
  producer = l.producer.0;
  consumer = l.consumer.0;
  entries = l.cargo.entries;
  bells = record { forward = l.front; backward = l.back; seen = l.saw; roomed = l.free };
  indices = record {
    head = l.head;
    tail = l.tail;
    taken = l.taken;
    sent = l.sent;
    stored = l.stored;
  };
}

-- a look that answered yes and isn't used still holds, and each entry has the queue's kind
pub record IsPlainQueue (l : Inside) : Type 0 where
  pub seen : l.saw ≡ true → 0 < length l.cargo.entries
  pub roomed : l.free ≡ true → length l.cargo.entries < l.cargo.capacity
  pub kinds : All (λ c. kind_of c.0 ≡ l.kind) l.cargo.entries
