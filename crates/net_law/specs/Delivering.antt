-- What a network client must get, and what it sends, where the device or its copier may drop: told
-- by the calls that were made.
use Rattle.std.specs.Prelude.{◌≡◌, ℕ, Bool, cond, Some, List, [], ◌++◌, map, slice_get}
use Rattle.frame_core.specs.declared.mac.Mac.{Mac}
use Rattle.frame_core.specs.Frames.{turned_round}
use Rattle.wire_core.specs.declared.names.Event.{Event}
use Rattle.wire_core.specs.Fates.{without}
use Rattle.wire_core.specs.Lists.{Passed}
use Rattle.turn_kit.specs.declared.pipe.Pipe.{Pipe}
use Rattle.pipe_driver.specs.Drivers.{PipesRow}
use Rattle.pipe_driver.specs.declared.pipes.Pipes.{Pipes}
use Rattle.eth_driver.specs.Four.{four_pipes}
use Rattle.class_expect.specs.NetExpect.Expecting.{Program, Sink, Source, Echo, frames_for}
use Rattle.device_model.specs.Ethernet.Devices.{DeviceRow, accepted}
use Rattle.device_model.specs.declared.ethernet.EthDevice.{EthDevice}
use Rattle.net_copier.specs.Copying.{CopierRow, leased_bytes, leases_dropped}
use Rattle.net_copier.specs.declared.NetCopier.{NetCopier}
use Rattle.buffer_kit.specs.Entries.{frame_of}
use Rattle.buffer_kit.specs.Pools.{given_entry}
use Rattle.buffer_kit.specs.Virtualising.{from_queues, to_queues}
use Rattle.net_virt_rx.specs.Receiving.{RxRow}
use Rattle.net_virt_rx.specs.declared.NetVirtRx.{NetVirtRx}
use Rattle.client_programs.specs.Net.Programs.{program_of, frames_out}
use Rattle.client_programs.specs.Net.Clients.{ClientRow, rx_active, tx_free}
use Rattle.client_programs.specs.declared.net.NetClient.{NetClient}
use Rattle.net_law.specs.Receiving.{HandsOver, AreRoomy}

-- the first list is the second, but for some of its elements that are left out
abbrev pub IsSubsequence : {T : Type 0} → List T → List T → Type 0
IsSubsequence {T} xs ys = (left_out : List Bool) × (without left_out ys ≡ xs)

-- what the client of an address must get: of the frames that a device accepted by these calls,
-- those that are for it
abbrev pub frames_due : EthDevice → Mac → List Event → List (List ℕ)
frames_due d mac calls = frames_for mac (accepted d calls)

-- the frames that the client of an address sends, by its program: none, those of its script, or an
-- answer to each frame that it must get; but where its copier drops, to each that came to it. An
-- answer goes back to the station from which the frame came
abbrev pub sends_for : Program → Mac → (drops : Bool) → (due came : List (List ℕ)) → List (List ℕ)
sends_for Sink mac drops due came = []
sends_for (Source script) mac drops due came = script
sends_for Echo mac drops due came = map (λ frame. turned_round frame mac) (cond drops came due)

-- the frames that came to a client
abbrev pub came_to : NetClient → Passed → List (List ℕ)
came_to c passed = map frame_of (passed.taken (rx_active c))

-- the frames that a client sends, beside its copier and the device
abbrev pub sends_out : EthDevice → NetCopier → NetClient → Passed → List (List ℕ)
sends_out d k c passed = sends_for (program_of c.program) c.program.mac k.drops
    (frames_due d c.program.mac passed.calls) (came_to c passed)

-- the bytes of the leases that a copier took and didn't drop
abbrev pub copied_bytes : NetCopier → Passed → List (List ℕ)
copied_bytes k passed = map leased_bytes
    (without (leases_dropped k passed.calls) (passed.taken k.lease_input.queue.0))

-- a device, its driver, the receiving virtualiser, and a client with its copier, whose rows hold,
-- where the device and the copier may drop; the client is that at one place of the virtualiser's,
-- and has this address; and each buffer that is filled is long enough
pub record IsDelivering (d : EthDevice) (p : Pipes (Pipes (Pipes Pipe))) (v : NetVirtRx)
    (k : NetCopier) (c : NetClient) (mac : Mac) (passed : Passed) : Type 0 where
  pub hands_over : HandsOver passed
  pub device : DeviceRow d passed
  pub driver : PipesRow (four_pipes p) passed
  pub virtualiser : RxRow v passed
  pub copier : CopierRow k passed
  pub client : ClientRow c passed
  pub from_device : p.rest.first.input.queue.0 ≡ d.active.queue.0
  pub from_driver : v.ends.input.queue.0 ≡ p.rest.first.output.queue.0
  pub place : ℕ
  pub address : slice_get v.work.macs.items place ≡ Some mac
  pub to_copier : slice_get (to_queues v.ends) place ≡ Some k.lease_input.queue
  pub from_copier : slice_get (from_queues v.ends) place ≡ Some k.lease_output.queue
  pub to_client : k.buffer_output.queue.0 ≡ c.frames.pipe.input.queue.0
  pub room_at_device : AreRoomy (accepted d passed.calls) (passed.taken d.free.queue.0)
  pub room_at_copier : AreRoomy (copied_bytes k passed) (passed.taken k.buffer_input.queue.0)

-- a client whose row holds sends in buffers that are long enough
abbrev pub HasRoomToSend : (c : NetClient) (passed : Passed) → ClientRow c passed → Type 0
HasRoomToSend c passed row = AreRoomy (frames_out c.program (came_to c passed))
    (map (given_entry c.outbox.stock.base c.outbox.stock.size) row.spare
    ++ passed.taken (tx_free c))
