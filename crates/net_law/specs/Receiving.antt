-- The network class on its way to one client, apart from any system: the rows of the actors on that
-- way, and the queues between.
use Rattle.std.specs.Prelude.{◌≡◌, ◌≤◌, ℕ, Some, List, [], ◌∷◌, length, map, slice_get}
use Rattle.cargo_core.specs.declared.item.Body.{Body}
use Rattle.cargo_core.specs.declared.item.Body.TheVariants as Carried
use Rattle.cargo_core.specs.declared.item.QueueKind.TheVariants as Kind
use Rattle.cargo_core.specs.Items.{kind_of}
use Rattle.cargo_core.specs.Lists.{IsPrefix}
use Rattle.frame_core.specs.declared.mac.Mac.{Mac}
use Rattle.wire_core.specs.Deeds.{Cargo}
use Rattle.wire_core.specs.Lists.{Passed}
use Rattle.turn_kit.specs.declared.pipe.Pipe.{Pipe}
use Rattle.pipe_driver.specs.Drivers.{PipesRow}
use Rattle.pipe_driver.specs.declared.pipes.Pipes.{Pipes}
use Rattle.eth_driver.specs.Four.{four_pipes}
use Rattle.device_model.specs.Ethernet.Devices.{HoldingDeviceRow}
use Rattle.device_model.specs.declared.ethernet.EthDevice.{EthDevice}
use Rattle.net_copier.specs.Copying.{HoldingCopierRow, leased_bytes}
use Rattle.net_copier.specs.declared.NetCopier.{NetCopier}
use Rattle.buffer_kit.specs.Virtualising.{from_queues, to_queues}
use Rattle.net_virt_rx.specs.Receiving.{RxRow}
use Rattle.net_virt_rx.specs.declared.NetVirtRx.{NetVirtRx}
use Rattle.client_programs.specs.Net.Clients.{ClientRow}
use Rattle.client_programs.specs.declared.net.NetClient.{NetClient}

-- what was taken from each queue is a beginning of what was put there
abbrev pub HandsOver : Passed → Type 0
HandsOver passed = (n : ℕ) → IsPrefix (passed.taken n) (passed.sent n)

-- a body is a page of at least so many bytes
abbrev pub HasRoom : ℕ → Body → Type 0
HasRoom n (Carried.Page page) = n ≤ length page.bytes
HasRoom n Carried.Empty = ⊥
HasRoom n (Carried.Lease lease) = ⊥

-- these bytes have room in the page of an entry of the network
abbrev pub IsRoomy : List ℕ → Cargo → Type 0
IsRoomy bytes c = (kind_of c.0 ≡ Kind.Net) × HasRoom (length bytes) c.1

-- each entry has room for the bytes of its place, as far as both go
abbrev pub AreRoomy : List (List ℕ) → List Cargo → Type 0
AreRoomy [] cs = Unit {0}
AreRoomy (bytes ∷ rest) [] = Unit {0}
AreRoomy (bytes ∷ rest) (c ∷ cs) = IsRoomy bytes c × AreRoomy rest cs

-- a device, its driver, the receiving virtualiser, and a client with its copier, whose rows hold;
-- the client is that at one place of the virtualiser's, and has this address; and each buffer that
-- is filled is long enough
pub record IsReceiving (d : EthDevice) (p : Pipes (Pipes (Pipes Pipe))) (v : NetVirtRx)
    (k : NetCopier) (c : NetClient) (mac : Mac) (passed : Passed) : Type 0 where
  pub hands_over : HandsOver passed
  pub device : HoldingDeviceRow d passed
  pub driver : PipesRow (four_pipes p) passed
  pub virtualiser : RxRow v passed
  pub copier : HoldingCopierRow k passed
  pub client : ClientRow c passed
  pub from_device : p.rest.first.input.queue.0 ≡ d.active.queue.0
  pub from_driver : v.ends.input.queue.0 ≡ p.rest.first.output.queue.0
  pub place : ℕ
  pub address : slice_get v.work.macs.items place ≡ Some mac
  pub to_copier : slice_get (to_queues v.ends) place ≡ Some k.lease_input.queue
  pub from_copier : slice_get (from_queues v.ends) place ≡ Some k.lease_output.queue
  pub to_client : k.buffer_output.queue.0 ≡ c.frames.pipe.input.queue.0
  pub room_at_device : AreRoomy d.frames (passed.taken d.free.queue.0)
  pub room_at_copier : AreRoomy (map leased_bytes (passed.taken k.lease_input.queue.0))
      (passed.taken k.buffer_input.queue.0)
