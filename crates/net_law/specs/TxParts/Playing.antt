-- The part that a sending virtualiser plays, and what it asks of the descriptors that come.
use Rattle.std.specs.Prelude.{◌≡◌, ℕ, true, Some, List, [], ◌∷◌, All, slice_get}
use Rattle.wire_core.specs.declared.names.QueueId.{QueueId}
use Rattle.wire_core.specs.Deeds.{Cargo}
use Rattle.wire_core.specs.Lists.{Passed}
use Rattle.buffer_kit.specs.Virtualising.{from_queues, to_queues}
use Rattle.net_virt_tx.specs.declared.NetVirtTx.{NetVirtTx}
use Rattle.net_virt_tx.specs.declared.descriptors.Sender.{Sender}
use Rattle.net_virt_tx.specs.Serving.{is_good_of}
use Rattle.net_virt_tx.specs.Traffics.{senders}
use Rattle.owner_law.specs.Pools.Places.{PoolAt}
use Rattle.net_law.specs.TxParts.Parts.{SendPart, Shipper}

-- the pool of a client's buffers
abbrev pub sender_pool : Sender → PoolAt
sender_pool s = record { number = s.pool.0; base = s.base; buffers = s.buffers; size = s.size }

-- clients with these pools and queues
abbrev pub shippers : List Sender → (from to : List QueueId) → List Shipper
shippers [] from to = []
shippers (s ∷ ss) [] to = []
shippers (s ∷ ss) (q ∷ from) [] = []
shippers (s ∷ ss) (q ∷ from) (r ∷ to) =
    record { active = q.0; free = r.0; pool = sender_pool s; most = s.most }
    ∷ shippers ss from to

-- a sending virtualiser's part
abbrev pub send_part : NetVirtTx → SendPart
send_part v = record {
  active = v.ends.output.queue.0;
  free = v.ends.input.queue.0;
  clients = shippers (senders v.work) (from_queues v.ends) (to_queues v.ends);
}

-- each descriptor that came is good
abbrev pub TakesGood : NetVirtTx → Passed → Type 0
TakesGood v passed = (k : ℕ) (s : Sender) (q : QueueId) → slice_get (senders v.work) k ≡ Some s
    → slice_get (from_queues v.ends) k ≡ Some q
    → All (λ (c : Cargo). is_good_of s c ≡ true) (passed.taken q.0)
