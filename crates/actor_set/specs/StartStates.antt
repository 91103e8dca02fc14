-- Actors in their start state, and the ends that rows give them.
use Rattle.std.specs.Prelude.{◌≡◌, ◌+◌, ◌-◌, ◌<◌, ◌^◌, ◌==◌, if◌then◌else◌, ℕ, Some, List, All}
use Rattle.std.specs.Prelude.{length, slice_get, false}
use Rattle.cargo_core.specs.declared.item.QueueKind.{QueueKind}
use Rattle.cargo_core.specs.declared.item.QueueKind.TheVariants as Kind
use Rattle.cargo_core.specs.Pages.{Paged}
use Rattle.wire_core.specs.declared.names.QueueRow.{QueueRow}
use Rattle.wire_core.specs.Ends.{Role, Consumer, Producer}
use Rattle.wire_core.specs.Journal.{owner_of}
use Rattle.wire_core.specs.declared.names.QueueId.{QueueId}
use Rattle.wire_core.specs.Lists.{nothing_passed}
use Rattle.turn_kit.specs.ManyEnds.{AreApart, intake_queues, outlet_queues}
use Rattle.turn_kit.specs.Pipes.{IsNewPipe}
use Rattle.device_model.specs.SerialTerminal.Terminals.{IsNewTerminal}
use Rattle.serial_virt.specs.Receiving.{IsNewRx}
use Rattle.serial_virt.specs.declared.rx.SerialVirtRx.{SerialVirtRx}
use Rattle.serial_virt.specs.Sending.{IsNewTx}
use Rattle.pipe_driver.specs.Drivers.{EachPipe, AreDistinct, inputs_of, outputs_of}
use Rattle.eth_driver.specs.Four.{four_pipes}
use Rattle.device_model.specs.Ethernet.Devices.{IsNewDevice, rx_free, rx_active, tx_active}
use Rattle.device_model.specs.Ethernet.Devices.{tx_free}
use Rattle.device_model.specs.declared.ethernet.EthDevice.{EthDevice}
use Rattle.buffer_kit.specs.Virtualising.{from_queues, to_queues}
use Rattle.buffer_kit.specs.declared.virt_ends.VirtEnds.{VirtEnds}
use Rattle.net_virt_rx.specs.Receiving.{IsNewRx as IsNewNetRx, RxStandsFor as NetRxStandsFor}
use Rattle.net_virt_rx.specs.declared.LeaseEnds.{LeaseEnds}
use Rattle.net_virt_rx.specs.declared.NetVirtRx.{NetVirtRx}
use Rattle.net_virt_tx.specs.Sending.{IsNewTx as IsNewNetTx, TxStandsFor as NetTxStandsFor}
use Rattle.net_virt_tx.specs.declared.TxEnds.{TxEnds}
use Rattle.net_virt_tx.specs.declared.NetVirtTx.{NetVirtTx}
use Rattle.net_copier.specs.Copying.{IsNewCopier}
use Rattle.client_programs.specs.Net.Clients.{IsNewClient}
use Rattle.client_programs.specs.Net.Clients as client
use Rattle.client_programs.specs.declared.net.NetClient.{NetClient}
use Rattle.device_model.specs.Disk.Disks.{IsNewDisk}
use Rattle.client_programs.specs.Blk.Asking.{IsAsking}
use Rattle.client_programs.specs.Blk.Clients.{IsNewBlkClient, BlkClientStandsFor}
use Rattle.client_programs.specs.declared.blk.BlkClient.{BlkClient}
use Rattle.client_programs.specs.Rogue.Clients.{IsNewRogue, left_of}
use Rattle.blk_driver.specs.declared.BlkDriver.{BlkDriver}
use Rattle.blk_virt.specs.Works.{IsWork}
use Rattle.blk_virt.specs.Virtualising.{IsNewBlkVirt, BlkVirtStandsFor}
use Rattle.blk_virt.specs.declared.virtualiser.BlkEnds.{BlkEnds}
use Rattle.blk_virt.specs.declared.virtualiser.BlkVirt.{BlkVirt}
use Rattle.actor_set.specs.Actors.{ActorEnd, HasFewClients, HasFirst}
use Rattle.actor_set.specs.declared.actor.Actor.{Actor}
use Rattle.actor_set.specs.declared.actor.Actor.TheVariants as Kinds

-- a receiving virtualiser of the serial class in its start state; each of its clients has its policy
pub record IsNewSharer (v : SerialVirtRx) : Type 0 where
  pub new : IsNewRx v.input.queue (outlet_queues v.outputs) v.drops.items v
  pub policies : length v.drops.items ≡ length (outlet_queues v.outputs)

-- an Ethernet device in its start state, each of whose frames has at most 65,535 bytes
pub record IsNewReceiving (d : EthDevice) : Type 0 where
  pub new : IsNewDevice d.free.queue d.active.queue d.wire.pipe.input.queue
      d.wire.pipe.output.queue d.frames false d
  pub short : All (λ frame. length frame < 2 ^ 16) d.frames

-- a receiving virtualiser of the network in its start state, with all buffers of its pool
pub record IsNewLender (v : NetVirtRx) : Type 0 where
  pub base : ℕ
  pub clients : List LeaseEnds
  pub pages : List Paged
  pub new : IsNewNetRx v.ends.input.queue v.ends.output.queue base clients pages v
  pub stands : NetRxStandsFor v nothing_passed

-- a network client in its start state, with all buffers of its two pools; each frame of its script
-- has at most 65,535 bytes
pub record IsNewClientOf (c : NetClient) : Type 0 where
  pub pages : List Paged
  pub spare : List Paged
  pub new : IsNewClient c.program.kind c.program.mac c.frames.pipe.input.queue
      c.frames.pipe.output.queue c.send.queue c.sent.queue pages spare c.program.script c
  pub short : All (λ frame. length frame < 2 ^ 16) c.program.script
  pub few : length pages + length spare < 2 ^ 32 - 4

-- a sending virtualiser of the network in its start state
pub record IsNewSender (v : NetVirtTx) : Type 0 where
  pub clients : List TxEnds
  pub most : ℕ
  pub new : IsNewNetTx v.ends.output.queue v.ends.input.queue clients most v
  pub stands : NetTxStandsFor v nothing_passed

-- a block virtualiser in its start state
pub record IsNewServer (v : BlkVirt) : Type 0 where
  pub clients : List BlkEnds
  pub page : Paged
  pub new : IsNewBlkVirt v.ends.output.queue v.ends.input.queue clients page v.work.opening.base
      v.work.opening.disk_sectors v
  pub work : IsWork v.work
  pub stands : BlkVirtStandsFor v nothing_passed
  pub few : HasFewClients v
  pub first : HasFirst v

-- a block client in its start state, with all buffers of its pool
pub record IsNewAsker (c : BlkClient) : Type 0 where
  pub pages : List Paged
  pub new : IsNewBlkClient c.requests.queue c.responses.queue pages
      c.asking.script.items c
  pub asking : IsAsking c.asking
  pub stands : BlkClientStandsFor c nothing_passed

-- an actor in its start state
abbrev pub IsNew : Actor → Type 0
IsNew (Kinds.UartDevice x) =
    IsNewTerminal x.terminal.input.queue x.terminal.output.queue x.terminal.script x.terminal
IsNew (Kinds.SerialClient x) =
    IsNewTerminal x.terminal.input.queue x.terminal.output.queue x.terminal.script x.terminal
IsNew (Kinds.UartDriver x) =
    IsNewPipe x.driver.pipes.first.input.queue x.driver.pipes.first.output.queue
    x.driver.pipes.first
    × IsNewPipe x.driver.pipes.rest.input.queue x.driver.pipes.rest.output.queue
    x.driver.pipes.rest
IsNew (Kinds.SerialVirtRx x) = IsNewSharer x
IsNew (Kinds.SerialVirtTx x) = IsNewTx x.output.queue (intake_queues x.inputs) x
IsNew (Kinds.EthDevice x) = IsNewReceiving x
IsNew (Kinds.EthDriver x) =
    EachPipe (λ p. IsNewPipe p.input.queue p.output.queue p) (four_pipes x.driver.pipes)
IsNew (Kinds.NetVirtRx x) = IsNewLender x
IsNew (Kinds.NetCopier x) = IsNewCopier x.lease_input.queue x.lease_output.queue
    x.buffer_output.queue x.buffer_input.queue x.drops x
IsNew (Kinds.NetClient x) = IsNewClientOf x
IsNew (Kinds.NetVirtTx x) = IsNewSender x
IsNew (Kinds.DiskDevice x) =
    IsNewDisk x.device.input.queue x.device.output.queue x.start.value x.device
IsNew (Kinds.BlkDriver x) =
    IsNewPipe x.driver.pipes.first.input.queue x.driver.pipes.first.output.queue
    x.driver.pipes.first
    × IsNewPipe x.driver.pipes.rest.input.queue x.driver.pipes.rest.output.queue
    x.driver.pipes.rest
IsNew (Kinds.BlkVirt x) = IsNewServer x
IsNew (Kinds.BlkClient x) = IsNewAsker x
IsNew (Kinds.Rogue x) =
    IsNewRogue x.kind x.inputs.items x.outputs.items x.start.value.items (left_of x).acts x

-- of a virtualiser of the network: its ends on each side are of queues of their own
pub record HasApartQueues (v : VirtEnds) : Type 0 where
  pub from : AreApart (from_queues v)
  pub to : AreApart (to_queues v)
  pub input : (k : ℕ) (q : QueueId) → slice_get (from_queues v) k ≡ Some q
      → v.input.queue.0 ≡ q.0 → ⊥
  pub output : (k : ℕ) (q : QueueId) → slice_get (to_queues v) k ≡ Some q
      → v.output.queue.0 ≡ q.0 → ⊥

-- no two of its ends on one side are of one queue
abbrev pub HasApartEnds : Actor → Type 0
HasApartEnds (Kinds.UartDevice x) = Unit {0}
HasApartEnds (Kinds.SerialClient x) = Unit {0}
HasApartEnds (Kinds.UartDriver x) =
    (x.driver.pipes.first.input.queue.0 ≡ x.driver.pipes.rest.input.queue.0 → ⊥)
    × (x.driver.pipes.first.output.queue.0 ≡ x.driver.pipes.rest.output.queue.0 → ⊥)
HasApartEnds (Kinds.SerialVirtRx x) = AreApart (outlet_queues x.outputs)
HasApartEnds (Kinds.SerialVirtTx x) = AreApart (intake_queues x.inputs)
HasApartEnds (Kinds.EthDevice x) =
    (rx_free x ≡ tx_active x → ⊥) × (rx_active x ≡ tx_free x → ⊥)
HasApartEnds (Kinds.EthDriver x) =
    AreDistinct (inputs_of (four_pipes x.driver.pipes))
    × AreDistinct (outputs_of (four_pipes x.driver.pipes))
HasApartEnds (Kinds.NetVirtRx x) = HasApartQueues x.ends
HasApartEnds (Kinds.NetCopier x) =
    (x.lease_input.queue.0 ≡ x.buffer_input.queue.0 → ⊥)
    × (x.buffer_output.queue.0 ≡ x.lease_output.queue.0 → ⊥)
HasApartEnds (Kinds.NetClient x) =
    (client.rx_active x ≡ client.tx_free x → ⊥) × (client.rx_free x ≡ client.tx_active x → ⊥)
HasApartEnds (Kinds.NetVirtTx x) = HasApartQueues x.ends
HasApartEnds (Kinds.DiskDevice x) = Unit {0}
HasApartEnds (Kinds.BlkDriver x) =
    (x.driver.pipes.first.input.queue.0 ≡ x.driver.pipes.rest.input.queue.0 → ⊥)
    × (x.driver.pipes.first.output.queue.0 ≡ x.driver.pipes.rest.output.queue.0 → ⊥)
HasApartEnds (Kinds.BlkVirt x) = HasApartQueues x.ends
HasApartEnds (Kinds.BlkClient x) = Unit {0}
HasApartEnds (Kinds.Rogue x) = Unit {0}

-- no queue has both its ends with the actor
abbrev pub HasNoLoop : Actor → Type 0
HasNoLoop x = (n : ℕ) → ActorEnd x Consumer n → ActorEnd x Producer n → ⊥

-- one kind of entry at the queue of a number, another at all others
abbrev pub kind_of_two : (number : ℕ) (here other : QueueKind) → ℕ → QueueKind
kind_of_two number here other n = if n == number then here else other

-- what the queue at an end of a block driver carries: its first pipe moves requests, the other
-- responses
abbrev pub driver_kind : BlkDriver → Role → ℕ → QueueKind
driver_kind d Consumer n = kind_of_two d.driver.pipes.first.input.queue.0 Kind.Req Kind.Resp n
driver_kind d Producer n = kind_of_two d.driver.pipes.first.output.queue.0 Kind.Req Kind.Resp n

-- what the queue at an end of a block virtualiser carries: responses come from the driver and
-- requests from the clients, and requests go to the driver and responses to the clients
abbrev pub server_kind : BlkVirt → Role → ℕ → QueueKind
server_kind v Consumer n = kind_of_two v.ends.input.queue.0 Kind.Resp Kind.Req n
server_kind v Producer n = kind_of_two v.ends.output.queue.0 Kind.Req Kind.Resp n

-- what an actor takes, and what it puts
abbrev pub kind_by : (takes puts : QueueKind) → Role → QueueKind
kind_by takes puts Consumer = takes
kind_by takes puts Producer = puts

-- what a client takes that puts this kind
abbrev pub taken_kind : QueueKind → QueueKind
taken_kind Kind.Net = Kind.Net
taken_kind Kind.Byte = Kind.Byte
taken_kind Kind.Req = Kind.Resp
taken_kind Kind.Resp = Kind.Req

-- what the queue at an end of an actor carries
abbrev pub kind_at : Actor → Role → ℕ → QueueKind
kind_at (Kinds.UartDevice x) r n = Kind.Byte
kind_at (Kinds.UartDriver x) r n = Kind.Byte
kind_at (Kinds.SerialVirtRx x) r n = Kind.Byte
kind_at (Kinds.SerialVirtTx x) r n = Kind.Byte
kind_at (Kinds.SerialClient x) r n = Kind.Byte
kind_at (Kinds.EthDevice x) r n = Kind.Net
kind_at (Kinds.EthDriver x) r n = Kind.Net
kind_at (Kinds.NetVirtRx x) r n = Kind.Net
kind_at (Kinds.NetCopier x) r n = Kind.Net
kind_at (Kinds.NetClient x) r n = Kind.Net
kind_at (Kinds.NetVirtTx x) r n = Kind.Net
kind_at (Kinds.DiskDevice x) r n = kind_by Kind.Req Kind.Resp r
kind_at (Kinds.BlkDriver x) r n = driver_kind x r n
kind_at (Kinds.BlkVirt x) r n = server_kind x r n
kind_at (Kinds.BlkClient x) r n = kind_by Kind.Resp Kind.Req r
kind_at (Kinds.Rogue x) r n = kind_by (taken_kind x.kind) x.kind r

-- by the rows, actor k has this end of queue n, which carries this kind
pub record HasSeat (rows : List QueueRow) (kind : QueueKind) (k : ℕ) (r : Role) (n : ℕ) :
    Type 0 where
  pub row : QueueRow
  pub there : slice_get rows n ≡ Some row
  pub owner : owner_of row r ≡ k
  pub carries : row.kind ≡ kind
