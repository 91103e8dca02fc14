-- What the laws on the sending virtualiser ask of what passed, where some of its clients may be
-- hostile.
use Rattle.std.specs.Prelude.{◌≡◌, ℕ, true, false, Some, List, All, slice_get}
use Rattle.cargo_core.specs.Lists.{IsPrefix}
use Rattle.wire_core.specs.declared.names.QueueId.{QueueId}
use Rattle.wire_core.specs.Deeds.{Cargo}
use Rattle.wire_core.specs.Lists.{Passed}
use Rattle.play_core.specs.Names.{Names, Wild, names_of}
use Rattle.buffer_kit.specs.Virtualising.{from_queues}
use Rattle.net_virt_tx.specs.declared.NetVirtTx.{NetVirtTx}
use Rattle.net_virt_tx.specs.declared.descriptors.Sender.{Sender}
use Rattle.net_virt_tx.specs.Serving.{is_good_of, own_of}
use Rattle.net_virt_tx.specs.Traffics.{senders}
use Rattle.net_law.specs.TxParts.Parts.{Shipper}

-- the names of what came from the hostile clients are told, and perhaps more
abbrev pub TellsOf : Wild → Names → List Shipper → Passed → Type 0
TellsOf wild names clients passed = (k : ℕ) (c : Shipper) → slice_get clients k ≡ Some c
    → wild c.active ≡ true → IsPrefix (names_of (passed.taken c.active)) (names c.active)

-- and those of what went back to them
abbrev pub TellsBack : Wild → Names → List Shipper → Passed → Type 0
TellsBack wild names clients passed = (k : ℕ) (c : Shipper) → slice_get clients k ≡ Some c
    → wild c.active ≡ true → IsPrefix (names_of (passed.sent c.free)) (names c.free)

-- each descriptor that came from a client that isn't hostile is good
abbrev pub CalmGood : Wild → NetVirtTx → Passed → Type 0
CalmGood wild v passed = (k : ℕ) (s : Sender) (q : QueueId) → slice_get (senders v.work) k ≡ Some s
    → slice_get (from_queues v.ends) k ≡ Some q → wild q.0 ≡ false
    → All (λ (c : Cargo). is_good_of s c ≡ true) (passed.taken q.0)

-- what came back from the driver for a hostile client is as it was sent: good
abbrev pub ReturnsGood : Wild → NetVirtTx → Passed → Type 0
ReturnsGood wild v passed = (k : ℕ) (s : Sender) (q : QueueId)
    → slice_get (senders v.work) k ≡ Some s → slice_get (from_queues v.ends) k ≡ Some q
    → wild q.0 ≡ true → All (λ (c : Cargo). is_good_of s c ≡ true)
    (own_of s (passed.taken v.ends.input.queue.0))
