-- The queues that rings leave behind which came to their end.
use Rattle.std.specs.Prelude.{◌≡◌, ◌≤◌, ◌%◌, false, List, length, map, All}
use Rattle.std.specs.List.{zip}
use Rattle.cargo_core.specs.Items.{kind_of}
use Rattle.wire_core.specs.declared.names.QueueRow.{QueueRow}
use Rattle.wire_core.specs.Queues.{Queue}
use Rattle.spsc_queue.specs.Known.Ends.{EndedIs}

-- the ring was of the row's kind and capacity; the entries that are left are of that kind, and no
-- more than it holds
pub record IsEndedOf (row : QueueRow) (e : EndedIs) : Type 0 where
  pub kind : e.producer.kind ≡ row.kind
  pub capacity : e.capacity ≡ row.capacity
  pub kinds : All (λ c. kind_of c.0 ≡ row.kind) e.left
  pub within : length e.left ≤ row.capacity

-- the queue of a row with the entries that are left, both bells as they were, and the index words
-- at what was taken and sent; no look is kept, and no word was stored
abbrev pub adopted : QueueRow × EndedIs → Queue
adopted x = record {
  kind = x.0.kind;
  capacity = x.0.capacity;
  producer = x.0.producer.0;
  consumer = x.0.consumer.0;
  entries = x.1.left;
  bells = record {
    forward = x.1.forward;
    backward = x.1.backward;
    seen = false;
    roomed = false;
  };
  indices = record {
    head = length x.1.consumer.entries % 65536;
    tail = length x.1.producer.entries % 65536;
    taken = length x.1.consumer.entries % 65536;
    sent = length x.1.producer.entries % 65536;
    stored = false;
  };
}

-- every queue so, where there is one ended ring for each row
abbrev pub all_adopted : List QueueRow → List EndedIs → List Queue
all_adopted rows ended = map adopted (zip rows ended)
