-- The network class on its way from the clients to the wire, apart from any system: the rows of the
-- actors on that way, and the queues between.
use Rattle.std.specs.Prelude.{◌≡◌, ℕ, Some, List, length, map, slice_get}
use Rattle.std.specs.List.{filter}
use Rattle.cargo_core.specs.Lists.{IsPrefix}
use Rattle.wire_core.specs.declared.names.QueueId.{QueueId}
use Rattle.wire_core.specs.Lists.{Passed}
use Rattle.turn_kit.specs.declared.pipe.Pipe.{Pipe}
use Rattle.pipe_driver.specs.Drivers.{PipesRow}
use Rattle.pipe_driver.specs.declared.pipes.Pipes.{Pipes}
use Rattle.eth_driver.specs.Four.{four_pipes}
use Rattle.device_model.specs.Ethernet.Devices.{DeviceRow, tx_active}
use Rattle.device_model.specs.declared.ethernet.EthDevice.{EthDevice}
use Rattle.buffer_kit.specs.Entries.{frame_of}
use Rattle.buffer_kit.specs.Virtualising.{from_queues}
use Rattle.net_virt_tx.specs.declared.NetVirtTx.{NetVirtTx}
use Rattle.net_virt_tx.specs.declared.descriptors.Sender.{Sender}
use Rattle.net_virt_tx.specs.Serving.{is_good_of}
use Rattle.net_virt_tx.specs.Traffics.{senders}
use Rattle.net_virt_tx.specs.Sending.{TxRow, all_good}
use Rattle.net_law.specs.Receiving.{HandsOver}

-- the sending virtualiser, the driver and the device, whose rows hold
pub record IsSending (d : EthDevice) (p : Pipes (Pipes (Pipes Pipe))) (v : NetVirtTx)
    (passed : Passed) : Type 0 where
  pub hands_over : HandsOver passed
  pub virtualiser : TxRow v passed
  pub driver : PipesRow (four_pipes p) passed
  pub device : DeviceRow d passed
  pub to_driver : p.rest.rest.first.input.queue.0 ≡ v.ends.output.queue.0
  pub to_device : tx_active d ≡ p.rest.rest.first.output.queue.0

-- the frames of the good descriptors that came from each client
abbrev pub frames_from : NetVirtTx → Passed → List (List (List ℕ))
frames_from v passed =
    map (map frame_of) (all_good (senders v.work) (from_queues v.ends) passed.taken)

-- of each client, the frames of the good descriptors that came from it are a beginning of what it
-- sends
pub record AllBegin (v : NetVirtTx) (passed : Passed) (sends : List (List (List ℕ))) :
    Type 0 where
  pub as_many : length (senders v.work) ≡ length sends
  pub each : (k : ℕ) (s : Sender) (q : QueueId) (l : List (List ℕ))
      → slice_get (senders v.work) k ≡ Some s → slice_get (from_queues v.ends) k ≡ Some q
      → slice_get sends k ≡ Some l
      → IsPrefix (map frame_of (filter (is_good_of s) (passed.taken q.0))) l
