-- The receive half on its way round, of entries with their bodies: the rows of its actors, and the
-- queues between.
use Rattle.std.specs.Prelude.{◌≡◌, ◌<◌, ℕ, Some, List, length, slice_get}
use Rattle.frame_core.specs.declared.mac.Mac.{Mac}
use Rattle.wire_core.specs.Lists.{Passed}
use Rattle.turn_kit.specs.declared.pipe.Pipe.{Pipe}
use Rattle.pipe_driver.specs.Drivers.{PipesRow}
use Rattle.pipe_driver.specs.declared.pipes.Pipes.{Pipes}
use Rattle.eth_driver.specs.Four.{four_pipes}
use Rattle.device_model.specs.Ethernet.Devices.{DeviceRow, accepted}
use Rattle.device_model.specs.declared.ethernet.EthDevice.{EthDevice}
use Rattle.client_programs.specs.Net.Clients.{ClientRow}
use Rattle.client_programs.specs.declared.net.NetClient.{NetClient}
use Rattle.net_copier.specs.Copying.{CopierRow}
use Rattle.net_copier.specs.declared.NetCopier.{NetCopier}
use Rattle.buffer_kit.specs.Virtualising.{from_queues, to_queues}
use Rattle.net_virt_rx.specs.Receiving.{RxRow}
use Rattle.net_virt_rx.specs.declared.NetVirtRx.{NetVirtRx}
use Rattle.net_law.specs.Receiving.{HandsOver, AreRoomy}
use Rattle.net_law.specs.Delivering.{copied_bytes}

-- a device, its driver, the receiving virtualiser and a copier for each of its clients, whose rows
-- hold, where the device and the copiers may drop; and each buffer that is filled is long enough
pub record IsReceiveHalf (d : EthDevice) (p : Pipes (Pipes (Pipes Pipe))) (v : NetVirtRx)
    (copiers : List NetCopier) (passed : Passed) : Type 0 where
  pub hands_over : HandsOver passed
  pub device : DeviceRow d passed
  pub driver : PipesRow (four_pipes p) passed
  pub virtualiser : RxRow v passed
  pub copier : (k : ℕ) (c : NetCopier) → slice_get copiers k ≡ Some c → CopierRow c passed
  pub to_driver : p.first.input.queue.0 ≡ v.ends.output.queue.0
  pub to_device : d.free.queue.0 ≡ p.first.output.queue.0
  pub from_device : p.rest.first.input.queue.0 ≡ d.active.queue.0
  pub from_driver : v.ends.input.queue.0 ≡ p.rest.first.output.queue.0
  pub copier_of : (k : ℕ) (mac : Mac) → slice_get v.work.macs.items k ≡ Some mac
      → (c : NetCopier) × (slice_get copiers k ≡ Some c)
  pub client_of : (k : ℕ) (c : NetCopier) → slice_get copiers k ≡ Some c
      → (mac : Mac) × (slice_get v.work.macs.items k ≡ Some mac)
  pub to_copier : (k : ℕ) (c : NetCopier) → slice_get copiers k ≡ Some c
      → slice_get (to_queues v.ends) k ≡ Some c.lease_input.queue
  pub from_copier : (k : ℕ) (c : NetCopier) → slice_get copiers k ≡ Some c
      → slice_get (from_queues v.ends) k ≡ Some c.lease_output.queue
  pub room_at_device : AreRoomy (accepted d passed.calls) (passed.taken d.free.queue.0)
  pub short : (k : ℕ) (frame : List ℕ) → slice_get d.frames k ≡ Some frame → length frame < 65536

-- a client, by its place and with its address, whose row holds; and each of its
-- buffers that is filled is long enough
pub record IsClient (v : NetVirtRx) (copiers : List NetCopier) (k : ℕ) (mac : Mac) (c : NetClient)
    (passed : Passed) : Type 0 where
  pub row : ClientRow c passed
  pub address : slice_get v.work.macs.items k ≡ Some mac
  pub copier : NetCopier
  pub there : slice_get copiers k ≡ Some copier
  pub to_client : copier.buffer_output.queue.0 ≡ c.frames.pipe.input.queue.0
  pub room : AreRoomy (copied_bytes copier passed) (passed.taken copier.buffer_input.queue.0)
