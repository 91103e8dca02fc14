-- The sending half on its way round, of entries with their bodies: the rows of its actors, and the
-- queues between.
use Rattle.std.specs.Prelude.{◌≡◌, ◌⊎◌, ◌+◌, ◌*◌, ◌<◌, ◌≤◌, ℕ, true, false, Some, List}
use Rattle.std.specs.Prelude.{[], All, slice_get}
use Rattle.wire_core.specs.declared.names.QueueId.{QueueId}
use Rattle.wire_core.specs.Deeds.{Cargo}
use Rattle.wire_core.specs.Lists.{Passed}
use Rattle.play_core.specs.Names.{Wild}
use Rattle.turn_kit.specs.declared.pipe.Pipe.{Pipe}
use Rattle.pipe_driver.specs.declared.pipes.Pipes.{Pipes}
use Rattle.device_model.specs.Ethernet.Devices.{tx_free}
use Rattle.device_model.specs.declared.ethernet.EthDevice.{EthDevice}
use Rattle.buffer_kit.specs.Virtualising.{from_queues, to_queues}
use Rattle.net_virt_tx.specs.declared.NetVirtTx.{NetVirtTx}
use Rattle.net_virt_tx.specs.declared.descriptors.Sender.{Sender}
use Rattle.net_virt_tx.specs.Serving.{is_good_of}
use Rattle.net_virt_tx.specs.Clients.{at_address}
use Rattle.net_virt_tx.specs.Traffics.{senders}
use Rattle.net_law.specs.Wire.Sending.{IsSending}

-- a client put good descriptors alone, and each buffer only while it was in its hand: at the start,
-- and as often as it came back
pub record SendsFromHand (s : Sender) (put back : List Cargo) : Type 0 where
  pub good : All (λ (c : Cargo). is_good_of s c ≡ true) put
  pub in_hand : (b : ℕ) → b < s.buffers
      → at_address (b * s.size) put ≤ at_address (b * s.size) back + 1

-- the sending virtualiser, the driver and the device, whose rows hold, both ways between them; and
-- each client puts what was in its hand, where no hostile actor has an end of its queue
pub record IsSendHalf (wild : Wild) (d : EthDevice) (p : Pipes (Pipes (Pipes Pipe)))
    (v : NetVirtTx) (passed : Passed) : Type 0 where
  pub sending : IsSending d p v passed
  pub from_device : p.rest.rest.rest.input.queue.0 ≡ tx_free d
  pub from_driver : v.ends.input.queue.0 ≡ p.rest.rest.rest.output.queue.0
  pub clients : (k : ℕ) (s : Sender) (q r : QueueId) → slice_get (senders v.work) k ≡ Some s
      → slice_get (from_queues v.ends) k ≡ Some q → slice_get (to_queues v.ends) k ≡ Some r
      → wild q.0 ≡ false → SendsFromHand s (passed.sent q.0) (passed.taken r.0)

-- what comes out of turn at the virtualiser is at a queue of one of its clients of which a hostile
-- actor has an end
abbrev pub StraysWild : Wild → (v : NetVirtTx) → (place : ℕ) → (stray : List Cargo) → Type 0
StraysWild wild v place stray = (stray ≡ [])
    ⊎ ((k : ℕ) × (q : QueueId) × (slice_get (from_queues v.ends) k ≡ Some q) × (place ≡ q.0)
    × (wild q.0 ≡ true))
