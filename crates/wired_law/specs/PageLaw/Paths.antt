-- The way of a buffer from the sending virtualiser to the device and back: what stands there at a
-- moment, in queues and in hands.
use Rattle.std.specs.Prelude.{◌≡◌, ◌+◌, ◌≤◌, ℕ, true, Some, List, [], ◌∷◌, ◌++◌, slice_get}
use Rattle.std.specs.Option.{option_to_list}
use Rattle.cargo_core.specs.declared.item.PoolId.{PoolId}
use Rattle.cargo_core.specs.Lists.{IsPrefix}
use Rattle.wire_core.specs.declared.names.QueueId.{QueueId}
use Rattle.wire_core.specs.Deeds.{Cargo}
use Rattle.wire_core.specs.Lists.{Passed}
use Rattle.turn_kit.specs.Pipes.{PipeStandsFor}
use Rattle.turn_kit.specs.declared.pipe.Pipe.{Pipe}
use Rattle.buffer_kit.specs.Conserving.{counted, the_page, weighed}
use Rattle.buffer_kit.specs.Virtualising.{from_queues}
use Rattle.net_virt_tx.specs.declared.NetVirtTx.{NetVirtTx}
use Rattle.net_virt_tx.specs.declared.descriptors.Sender.{Sender}
use Rattle.net_virt_tx.specs.Serving.{is_good_of}
use Rattle.net_virt_tx.specs.Traffics.{traffic_hand}
use Rattle.wired_law.specs.PageLaw.Holders.{standing}

-- three pipes one after another, the driver's way down, the device's and the driver's way up,
-- between the virtualiser's queue to the driver and the one on which buffers come back; their
-- queues hand over in order
pub record IsWay (down device up : Pipe) (input output : ℕ) (passed : Passed) : Type 0 where
  pub first : PipeStandsFor down passed
  pub second : PipeStandsFor device passed
  pub third : PipeStandsFor up passed
  pub to_driver : down.input.queue.0 ≡ output
  pub to_device : device.input.queue.0 ≡ down.output.queue.0
  pub from_device : up.input.queue.0 ≡ device.output.queue.0
  pub from_driver : input ≡ up.output.queue.0
  pub begins : (n : ℕ) → IsPrefix (passed.taken n) (passed.sent n)

-- what stands on that way, what comes back first in front
abbrev pub on_way : (down device up : Pipe) → (input output : ℕ) → Passed → List Cargo
on_way down device up input output passed =
    standing passed input ++ (option_to_list up.load ++ (standing passed device.output.queue.0
    ++ (option_to_list device.load ++ (standing passed down.output.queue.0
    ++ (option_to_list down.load ++ standing passed output)))))

-- each buffer is at most once on the way and in the virtualiser's hand
abbrev pub AreOnce : List Cargo → NetVirtTx → Type 0
AreOnce way v = (pool : PoolId) (number : ℕ) → weighed (the_page pool number) way
    + counted (the_page pool number) (traffic_hand v.work) ≤ 1

-- the queue on which buffers come back is none of the clients'
abbrev pub InputApart : NetVirtTx → Type 0
InputApart v = (k : ℕ) (q : QueueId) → slice_get (from_queues v.ends) k ≡ Some q
    → v.ends.input.queue.0 ≡ q.0 → ⊥

-- each of these entries is a good descriptor of the client
abbrev pub AreGood : Sender → List Cargo → Type 0
AreGood s [] = Unit {0}
AreGood s (x ∷ xs) = (is_good_of s x ≡ true) × AreGood s xs
