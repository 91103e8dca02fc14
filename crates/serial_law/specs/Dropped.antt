-- What the receiving virtualiser's calls tell of the bytes that it dropped.
use Rattle.std.specs.Prelude.{◌≡◌, ℕ, Bool, cond, Some, List, [], length, map, slice_get}
use Rattle.std.specs.Prelude.{slice_index_or}
use Rattle.wire_core.specs.declared.names.Event.{Event}
use Rattle.wire_core.specs.declared.names.QueueId.{QueueId}
use Rattle.wire_core.specs.Ends.{Producer}
use Rattle.wire_core.specs.Fates.{noes_at}
use Rattle.wire_core.specs.Lists.{Passed}
use Rattle.wire_core.specs.Queues.{items_of}
use Rattle.play_core.specs.Moved.{Moved}
use Rattle.serial_virt.specs.Shares.{Taker, policy_at, byte_fate}
use Rattle.turn_kit.specs.ManyEnds.{outlet_queues}
use Rattle.serial_virt.specs.declared.rx.SerialVirtRx.{SerialVirtRx}
use Rattle.serial_law.specs.Table.{Marks}

-- a client of a number among those with these queues
abbrev pub taker : (clients : List ℕ) (drops : List Bool) → ℕ → Taker
taker clients drops k = record {
  clients = length clients;
  client = k;
  drops = policy_at drops k;
  queue = slice_index_or clients k 0;
}

-- of each client whose bytes may be dropped, whether each byte of its part was, as these calls tell
abbrev pub told_marks : (rx : ℕ) (clients : List ℕ) (drops : List Bool) → List Event → Marks
told_marks rx clients drops calls k =
    cond (policy_at drops k) (byte_fate rx (taker clients drops k) calls).dropped []

-- the queues of its clients, by their numbers
abbrev pub client_queues : SerialVirtRx → List ℕ
client_queues v = map (λ (q : QueueId). q.0) (outlet_queues v.outputs)

-- at the receiver's ends entries, whatever their bodies are, have these items, and by the calls
-- each output looked in vain as often
pub record TellsReceiver (v : SerialVirtRx) (passed : Passed) (m : Moved) : Type 0 where
  pub taken : items_of (passed.taken v.input.queue.0) ≡ m.taken v.input.queue.0
  pub sent : (k q : ℕ) → slice_get (client_queues v) k ≡ Some q
      → items_of (passed.sent q) ≡ m.sent q
  pub noes : (k q : ℕ) → slice_get (client_queues v) k ≡ Some q
      → noes_at Producer q passed.calls ≡ m.noes Producer q
