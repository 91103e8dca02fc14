-- What is said of an actor of any kind: one case for each kind.
use Rattle.std.specs.Prelude.{◌≡◌, ◌+◌, ◌-◌, ◌<◌, ◌^◌, ◌==◌, if◌then◌else◌, ℕ, Bool, true, false}
use Rattle.std.specs.Prelude.{List, [], length, map, All}
use Rattle.std.specs.List.{filter}
use Rattle.cargo_core.specs.declared.item.Body.{Body}
use Rattle.wire_core.specs.Lists.{Passed}
use Rattle.wire_core.specs.Ends.{Role, End, role_of}
use Rattle.wire_core.specs.declared.names.Event.{Event}
use Rattle.wire_core.specs.Queues.{is_store}
use Rattle.turn_kit.specs.Turns.{Round, Turned, is_at_rest}
use Rattle.turn_kit.specs.Hands.{bodies_of}
use Rattle.device_model.specs.SerialTerminal.Terminals.{FitsTerminal, TerminalStandsFor}
use Rattle.device_model.specs.SerialTerminal.Terminals.{TerminalRow, TerminalBalances, TerminalEnd}
use Rattle.device_model.specs.SerialTerminal.Terminals.{terminal_round, terminal_hand}
use Rattle.device_model.specs.SerialTerminal.Terminals.{terminal_forgotten}
use Rattle.serial_virt.specs.Receiving.{FitsRx, RxStandsFor, RxRow, RxBalances, RxEnd}
use Rattle.serial_virt.specs.Receiving.{RxForgot, rx_round, rx_hand}
use Rattle.serial_virt.specs.Sending.{FitsTx, TxStandsFor, TxRow, TxBalances, TxEnd, TxForgot}
use Rattle.serial_virt.specs.Sending.{tx_round, tx_hand}
use Rattle.turn_kit.specs.ManyEnds.{intake_queues, outlet_queues}
use Rattle.wire_core.specs.declared.names.QueueId.{QueueId}
use Rattle.pipe_driver.specs.Drivers.{FitsPipes, PipesStandFor, PipesRow, PipesBalance, PipesEnd}
use Rattle.pipe_driver.specs.Drivers.{pipes_round, pipes_hand, pipe_forgotten}
use Rattle.pipe_driver.specs.Lengths.{two_pipes}
use Rattle.eth_driver.specs.Four.{four_pipes}
use Rattle.device_model.specs.Ethernet.Devices.{FitsDevice, DeviceStandsFor}
use Rattle.device_model.specs.Ethernet.Devices.{DeviceRow, DeviceBalances, DeviceEnd}
use Rattle.device_model.specs.Ethernet.Devices.{device_round, device_hand, device_forgotten}
use Rattle.net_virt_rx.specs.Receiving.{FitsRx as FitsNetRx, RxStandsFor as NetRxStandsFor}
use Rattle.net_virt_rx.specs.Receiving.{RxRow as NetRxRow, RxBalances as NetRxBalances}
use Rattle.net_virt_rx.specs.Receiving.{RxEnd as NetRxEnd, RxForgot as NetRxForgot}
use Rattle.net_virt_rx.specs.Receiving.{rx_round as net_rx_round}
use Rattle.net_virt_rx.specs.Sharing.{IsSharer, lent_many, sharer_hand}
use Rattle.net_virt_rx.specs.declared.NetVirtRx.{NetVirtRx}
use Rattle.net_virt_tx.specs.Sending.{FitsTx as FitsNetTx, TxStandsFor as NetTxStandsFor}
use Rattle.net_virt_tx.specs.Sending.{TxRow as NetTxRow, TxBalances as NetTxBalances}
use Rattle.net_virt_tx.specs.Sending.{TxEnd as NetTxEnd, TxForgot as NetTxForgot}
use Rattle.net_virt_tx.specs.Sending.{tx_round as net_tx_round}
use Rattle.net_virt_tx.specs.Traffics.{IsTraffic, bad_count, traffic_hand}
use Rattle.net_virt_tx.specs.declared.NetVirtTx.{NetVirtTx}
use Rattle.buffer_kit.specs.Virtualising.{from_queues, to_queues}
use Rattle.net_copier.specs.Copying.{FitsCopier, CopierStandsFor, CopierRow}
use Rattle.net_copier.specs.Copying.{CopierBalances, CopierEnd, copier_round, copier_hand}
use Rattle.net_copier.specs.Copying.{copier_forgotten}
use Rattle.client_programs.specs.Net.Clients.{FitsClient, ClientStandsFor, ClientRow}
use Rattle.client_programs.specs.Net.Clients.{ClientBalances, ClientEnd, client_round}
use Rattle.client_programs.specs.Net.Clients.{client_hand, client_forgotten}
use Rattle.net_law.specs.Parts.Playing.{HasBuffers, device_part, driver_part, receiver_part}
use Rattle.net_law.specs.Parts.Playing.{copier_part, client_part}
use Rattle.net_law.specs.TxParts.Playing.{send_part}
use Rattle.device_model.specs.Disk.Disks.{FitsDisk, DiskStandsFor, DiskRow, DiskBalances}
use Rattle.device_model.specs.Disk.Disks.{DiskEnd, disk_round, disk_hand, disk_forgotten}
use Rattle.client_programs.specs.Blk.Asking.{IsAsking}
use Rattle.client_programs.specs.Blk.Clients.{FitsBlkClient, BlkClientStandsFor}
use Rattle.client_programs.specs.Blk.Clients.{BlkClientRow, BlkClientBalances, BlkClientEnd}
use Rattle.client_programs.specs.Blk.Clients.{blk_client_round, blk_client_hand}
use Rattle.client_programs.specs.Blk.Clients.{blk_client_forgotten}
use Rattle.blk_virt.specs.Desks.{holders, bad_count as blk_bad_count}
use Rattle.blk_virt.specs.Works.{work_cargo}
use Rattle.blk_virt.specs.Virtualising.{FitsBlkVirt, BlkVirtStandsFor, BlkVirtRow, BlkVirtBalances}
use Rattle.blk_virt.specs.Virtualising.{BlkVirtEnd, BlkVirtForgot, blk_virt_round}
use Rattle.blk_virt.specs.declared.virtualiser.BlkVirt.{BlkVirt}
use Rattle.blk_law.specs.Sheets.Playing.{disk_part, blk_driver_part, virt_part, blk_client_part}
use Rattle.cargo_core.specs.Pages.{Paged}
use Rattle.client_programs.specs.declared.rogue.Rogue.{Rogue}
use Rattle.client_programs.specs.Rogue.Acts.{Left, is_done}
use Rattle.client_programs.specs.Rogue.Clients.{FitsRogue, RogueStandsFor, RogueBalances, RogueEnd}
use Rattle.client_programs.specs.Rogue.Clients.{IsRogue, IsOwnCall, Acted, SameRogue, HasForgotten}
use Rattle.client_programs.specs.Rogue.Clients.{left_of, left_at_start, ends_of}
use Rattle.actor_set.specs.Parts.{Part, UartPart, DriverPart, RxPart, TxPart, ClientPart}
use Rattle.actor_set.specs.Parts.{NetworkPart, SendingPart, BlockPart, PageAt, RoguePart}
use Rattle.actor_set.specs.Parts.{HostilePart}
use Rattle.actor_set.specs.declared.actor.Actor.{Actor}
use Rattle.actor_set.specs.declared.actor.Actor.TheVariants as Kinds

-- a block virtualiser has so few clients that its buffers can be counted
abbrev pub HasFewClients : BlkVirt → Type 0
HasFewClients v = length v.work.desk.clients.items < 2 ^ 31 - 2

-- and its own buffer is the first of its pool
abbrev pub HasFirst : BlkVirt → Type 0
HasFirst v = v.work.opening.own.no ≡ 0

-- the actor's ends are its own, and as it keeps them; no Ethernet device drops; a network client's
-- own buffers begin at offset 0, and a block virtualiser has few clients and the first buffer of its
-- pool
abbrev pub FitsActor : (Role → ℕ → End) → Actor → Type 0
FitsActor ends (Kinds.UartDevice x) = FitsTerminal ends x.terminal
FitsActor ends (Kinds.UartDriver x) = FitsPipes ends (two_pipes x.driver.pipes)
FitsActor ends (Kinds.SerialVirtRx x) = FitsRx ends x
FitsActor ends (Kinds.SerialVirtTx x) = FitsTx ends x
FitsActor ends (Kinds.SerialClient x) = FitsTerminal ends x.terminal
FitsActor ends (Kinds.EthDevice x) = FitsDevice ends x × (x.drops ≡ false)
FitsActor ends (Kinds.EthDriver x) = FitsPipes ends (four_pipes x.driver.pipes)
FitsActor ends (Kinds.NetVirtRx x) = FitsNetRx ends x
FitsActor ends (Kinds.NetCopier x) = FitsCopier ends x
FitsActor ends (Kinds.NetClient x) = FitsClient ends x × HasBuffers x
FitsActor ends (Kinds.NetVirtTx x) = FitsNetTx ends x
FitsActor ends (Kinds.DiskDevice x) = FitsDisk ends x.device
FitsActor ends (Kinds.BlkDriver x) = FitsPipes ends (two_pipes x.driver.pipes)
FitsActor ends (Kinds.BlkVirt x) = FitsBlkVirt ends x × HasFewClients x × HasFirst x
FitsActor ends (Kinds.BlkClient x) = FitsBlkClient ends x
FitsActor ends (Kinds.Rogue x) = FitsRogue ends x

-- what it keeps, by what it took and what it put
abbrev pub ActorStandsFor : Actor → Passed → Type 0
ActorStandsFor (Kinds.UartDevice x) passed = TerminalStandsFor x.terminal passed
ActorStandsFor (Kinds.UartDriver x) passed = PipesStandFor (two_pipes x.driver.pipes) passed
ActorStandsFor (Kinds.SerialVirtRx x) passed = RxStandsFor x passed
ActorStandsFor (Kinds.SerialVirtTx x) passed = TxStandsFor x passed
ActorStandsFor (Kinds.SerialClient x) passed = TerminalStandsFor x.terminal passed
ActorStandsFor (Kinds.EthDevice x) passed = DeviceStandsFor x passed
ActorStandsFor (Kinds.EthDriver x) passed = PipesStandFor (four_pipes x.driver.pipes) passed
ActorStandsFor (Kinds.NetVirtRx x) passed = NetRxStandsFor x passed
ActorStandsFor (Kinds.NetCopier x) passed = CopierStandsFor x passed
ActorStandsFor (Kinds.NetClient x) passed = ClientStandsFor x passed
ActorStandsFor (Kinds.NetVirtTx x) passed = NetTxStandsFor x passed
ActorStandsFor (Kinds.DiskDevice x) passed = DiskStandsFor x.start.value x.device passed
ActorStandsFor (Kinds.BlkDriver x) passed = PipesStandFor (two_pipes x.driver.pipes) passed
ActorStandsFor (Kinds.BlkVirt x) passed = BlkVirtStandsFor x passed
ActorStandsFor (Kinds.BlkClient x) passed = BlkClientStandsFor x passed
ActorStandsFor (Kinds.Rogue x) passed = RogueStandsFor x passed

-- what it may have put and recorded, for what it took
abbrev pub ActorRow : Actor → Passed → Type 0
ActorRow (Kinds.UartDevice x) passed = TerminalRow x.terminal passed
ActorRow (Kinds.UartDriver x) passed = PipesRow (two_pipes x.driver.pipes) passed
ActorRow (Kinds.SerialVirtRx x) passed = RxRow x passed
ActorRow (Kinds.SerialVirtTx x) passed = TxRow x passed
ActorRow (Kinds.SerialClient x) passed = TerminalRow x.terminal passed
ActorRow (Kinds.EthDevice x) passed = DeviceRow x passed
ActorRow (Kinds.EthDriver x) passed = PipesRow (four_pipes x.driver.pipes) passed
ActorRow (Kinds.NetVirtRx x) passed = NetRxRow x passed
ActorRow (Kinds.NetCopier x) passed = CopierRow x passed
ActorRow (Kinds.NetClient x) passed = ClientRow x passed
ActorRow (Kinds.NetVirtTx x) passed = NetTxRow x passed
ActorRow (Kinds.DiskDevice x) passed = DiskRow x.start.value x.device passed
ActorRow (Kinds.BlkDriver x) passed = PipesRow (two_pipes x.driver.pipes) passed
ActorRow (Kinds.BlkVirt x) passed = BlkVirtRow x passed
ActorRow (Kinds.BlkClient x) passed = BlkClientRow x passed
ActorRow (Kinds.Rogue x) passed = Unit {0}

-- what it had at the start and what came is what went, what is in its hand, and what it keeps for
-- good or lends
abbrev pub ActorBalances : Actor → Passed → Type 0
ActorBalances (Kinds.UartDevice x) passed = TerminalBalances x.terminal passed
ActorBalances (Kinds.UartDriver x) passed = PipesBalance (two_pipes x.driver.pipes) passed
ActorBalances (Kinds.SerialVirtRx x) passed = RxBalances x passed
ActorBalances (Kinds.SerialVirtTx x) passed = TxBalances x passed
ActorBalances (Kinds.SerialClient x) passed = TerminalBalances x.terminal passed
ActorBalances (Kinds.EthDevice x) passed = DeviceBalances x passed
ActorBalances (Kinds.EthDriver x) passed = PipesBalance (four_pipes x.driver.pipes) passed
ActorBalances (Kinds.NetVirtRx x) passed = NetRxBalances x passed
ActorBalances (Kinds.NetCopier x) passed = CopierBalances x passed
ActorBalances (Kinds.NetClient x) passed = ClientBalances x passed
ActorBalances (Kinds.NetVirtTx x) passed = NetTxBalances x passed
ActorBalances (Kinds.DiskDevice x) passed = DiskBalances x.device passed
ActorBalances (Kinds.BlkDriver x) passed = PipesBalance (two_pipes x.driver.pipes) passed
ActorBalances (Kinds.BlkVirt x) passed = BlkVirtBalances x passed
ActorBalances (Kinds.BlkClient x) passed = BlkClientBalances x passed
ActorBalances (Kinds.Rogue x) passed = RogueBalances x passed

-- one of its ends
abbrev pub ActorEnd : Actor → Role → ℕ → Type 0
ActorEnd (Kinds.UartDevice x) r n = TerminalEnd x.terminal r n
ActorEnd (Kinds.UartDriver x) r n = PipesEnd (two_pipes x.driver.pipes) r n
ActorEnd (Kinds.SerialVirtRx x) r n = RxEnd x r n
ActorEnd (Kinds.SerialVirtTx x) r n = TxEnd x r n
ActorEnd (Kinds.SerialClient x) r n = TerminalEnd x.terminal r n
ActorEnd (Kinds.EthDevice x) r n = DeviceEnd x r n
ActorEnd (Kinds.EthDriver x) r n = PipesEnd (four_pipes x.driver.pipes) r n
ActorEnd (Kinds.NetVirtRx x) r n = NetRxEnd x r n
ActorEnd (Kinds.NetCopier x) r n = CopierEnd x r n
ActorEnd (Kinds.NetClient x) r n = ClientEnd x r n
ActorEnd (Kinds.NetVirtTx x) r n = NetTxEnd x r n
ActorEnd (Kinds.DiskDevice x) r n = DiskEnd x.device r n
ActorEnd (Kinds.BlkDriver x) r n = PipesEnd (two_pipes x.driver.pipes) r n
ActorEnd (Kinds.BlkVirt x) r n = BlkVirtEnd x r n
ActorEnd (Kinds.BlkClient x) r n = BlkClientEnd x r n
ActorEnd (Kinds.Rogue x) r n = RogueEnd x r n

-- an actor did the same by these calls as by those: without calls that are at none of its ends, and
-- without stores, they are the same
pub record ActsAlike (a : Actor) (old new : List Event) : Type 0 where
  pub own : Event → Bool
  pub others : (e : Event) → own e ≡ false → ActorEnd a (role_of e.op) e.queue.0
      → is_store e.op ≡ true
  pub same : filter own new ≡ filter own old

-- what a receiving virtualiser keeps fits together: it has one queue each way for each client
pub record IsWholeReceiver (v : NetVirtRx) : Type 0 where
  pub work : IsSharer v.work
  pub from_each : length (from_queues v.ends) ≡ length v.work.macs.items
  pub to_each : length (to_queues v.ends) ≡ length v.work.macs.items

-- what a sending virtualiser keeps fits together: it has one queue each way for each client
pub record IsWholeSender (v : NetVirtTx) : Type 0 where
  pub work : IsTraffic v.work
  pub from_each : length (from_queues v.ends) ≡ length v.work.clients.items
  pub to_each : length (to_queues v.ends) ≡ length v.work.clients.items

-- what a block virtualiser keeps fits together: it has one queue each way for each client, and the
-- first buffer of its pool
pub record IsWholeServer (v : BlkVirt) : Type 0 where
  pub few : HasFewClients v
  pub first : HasFirst v
  pub from_each : length (from_queues v.ends) ≡ length (holders v.work.desk)
  pub to_each : length (to_queues v.ends) ≡ length (holders v.work.desk)

-- what it keeps fits together, so that its ends can be told and its buffers counted
abbrev pub IsWhole : Actor → Type 0
IsWhole (Kinds.UartDevice x) = Unit {0}
IsWhole (Kinds.UartDriver x) = Unit {0}
IsWhole (Kinds.SerialVirtRx x) = Unit {0}
IsWhole (Kinds.SerialVirtTx x) = Unit {0}
IsWhole (Kinds.SerialClient x) = Unit {0}
IsWhole (Kinds.EthDevice x) = x.drops ≡ false
IsWhole (Kinds.EthDriver x) = Unit {0}
IsWhole (Kinds.NetVirtRx x) = IsWholeReceiver x
IsWhole (Kinds.NetCopier x) = Unit {0}
IsWhole (Kinds.NetClient x) =
    length x.stock.rest.items + length x.outbox.stock.rest.items < 2 ^ 32 - 4
IsWhole (Kinds.NetVirtTx x) = IsWholeSender x
IsWhole (Kinds.DiskDevice x) = Unit {0}
IsWhole (Kinds.BlkDriver x) = Unit {0}
IsWhole (Kinds.BlkVirt x) = IsWholeServer x
IsWhole (Kinds.BlkClient x) = IsAsking x.asking
IsWhole (Kinds.Rogue x) = IsRogue x

-- its ends, and which of them it needs; a hostile client takes no turns, so it has none of them
-- here
abbrev pub actor_round : Actor → Round
actor_round (Kinds.UartDevice x) = terminal_round x.terminal
actor_round (Kinds.UartDriver x) = pipes_round (two_pipes x.driver.pipes) x.driver.turn.last
actor_round (Kinds.SerialVirtRx x) = rx_round x
actor_round (Kinds.SerialVirtTx x) = tx_round x
actor_round (Kinds.SerialClient x) = terminal_round x.terminal
actor_round (Kinds.EthDevice x) = device_round x
actor_round (Kinds.EthDriver x) = pipes_round (four_pipes x.driver.pipes) x.driver.turn.last
actor_round (Kinds.NetVirtRx x) = net_rx_round x
actor_round (Kinds.NetCopier x) = copier_round x
actor_round (Kinds.NetClient x) = client_round x
actor_round (Kinds.NetVirtTx x) = net_tx_round x
actor_round (Kinds.DiskDevice x) = disk_round x.device
actor_round (Kinds.BlkDriver x) = pipes_round (two_pipes x.driver.pipes) x.driver.turn.last
actor_round (Kinds.BlkVirt x) = blk_virt_round x
actor_round (Kinds.BlkClient x) = blk_client_round x
actor_round (Kinds.Rogue x) = record { posts = []; needs = []; last = 0 }

-- nothing is to be done before a notification comes: each of these kinds says it of its ends, but a
-- hostile client of its acts
abbrev pub actor_rests : Actor → Bool
actor_rests (Kinds.UartDevice x) = is_at_rest (terminal_round x.terminal)
actor_rests (Kinds.UartDriver x) = is_at_rest (pipes_round
    (two_pipes x.driver.pipes) x.driver.turn.last)
actor_rests (Kinds.SerialVirtRx x) = is_at_rest (rx_round x)
actor_rests (Kinds.SerialVirtTx x) = is_at_rest (tx_round x)
actor_rests (Kinds.SerialClient x) = is_at_rest (terminal_round x.terminal)
actor_rests (Kinds.EthDevice x) = is_at_rest (device_round x)
actor_rests (Kinds.EthDriver x) = is_at_rest (pipes_round
    (four_pipes x.driver.pipes) x.driver.turn.last)
actor_rests (Kinds.NetVirtRx x) = is_at_rest (net_rx_round x)
actor_rests (Kinds.NetCopier x) = is_at_rest (copier_round x)
actor_rests (Kinds.NetClient x) = is_at_rest (client_round x)
actor_rests (Kinds.NetVirtTx x) = is_at_rest (net_tx_round x)
actor_rests (Kinds.DiskDevice x) = is_at_rest (disk_round x.device)
actor_rests (Kinds.BlkDriver x) = is_at_rest (pipes_round
    (two_pipes x.driver.pipes) x.driver.turn.last)
actor_rests (Kinds.BlkVirt x) = is_at_rest (blk_virt_round x)
actor_rests (Kinds.BlkClient x) = is_at_rest (blk_client_round x)
actor_rests (Kinds.Rogue x) = is_done (left_of x)

-- a hostile client made its next call, and its acts and ends stay
abbrev pub RogueTurned : Rogue → Event → Actor → Type 0
RogueTurned x e (Kinds.Rogue y) = Acted x e y × SameRogue x y
RogueTurned x e y = ⊥

-- a call is its turn: each of these kinds takes its ends in turn, but a hostile client its acts
abbrev pub ActorTurned : Actor → Event → Actor → Type 0
ActorTurned (Kinds.UartDevice x) e y = Turned (terminal_round x.terminal) e (actor_round y)
ActorTurned (Kinds.UartDriver x) e y =
    Turned (pipes_round (two_pipes x.driver.pipes) x.driver.turn.last) e (actor_round y)
ActorTurned (Kinds.SerialVirtRx x) e y = Turned (rx_round x) e (actor_round y)
ActorTurned (Kinds.SerialVirtTx x) e y = Turned (tx_round x) e (actor_round y)
ActorTurned (Kinds.SerialClient x) e y = Turned (terminal_round x.terminal) e (actor_round y)
ActorTurned (Kinds.EthDevice x) e y = Turned (device_round x) e (actor_round y)
ActorTurned (Kinds.EthDriver x) e y =
    Turned (pipes_round (four_pipes x.driver.pipes) x.driver.turn.last) e (actor_round y)
ActorTurned (Kinds.NetVirtRx x) e y = Turned (net_rx_round x) e (actor_round y)
ActorTurned (Kinds.NetCopier x) e y = Turned (copier_round x) e (actor_round y)
ActorTurned (Kinds.NetClient x) e y = Turned (client_round x) e (actor_round y)
ActorTurned (Kinds.NetVirtTx x) e y = Turned (net_tx_round x) e (actor_round y)
ActorTurned (Kinds.DiskDevice x) e y = Turned (disk_round x.device) e (actor_round y)
ActorTurned (Kinds.BlkDriver x) e y =
    Turned (pipes_round (two_pipes x.driver.pipes) x.driver.turn.last) e (actor_round y)
ActorTurned (Kinds.BlkVirt x) e y = Turned (blk_virt_round x) e (actor_round y)
ActorTurned (Kinds.BlkClient x) e y = Turned (blk_client_round x) e (actor_round y)
ActorTurned (Kinds.Rogue x) e y = RogueTurned x e y

-- the bodies in its hand
abbrev pub actor_hand : Actor → List Body
actor_hand (Kinds.UartDevice x) = terminal_hand x.terminal
actor_hand (Kinds.UartDriver x) = pipes_hand (two_pipes x.driver.pipes)
actor_hand (Kinds.SerialVirtRx x) = rx_hand x
actor_hand (Kinds.SerialVirtTx x) = tx_hand x
actor_hand (Kinds.SerialClient x) = terminal_hand x.terminal
actor_hand (Kinds.EthDevice x) = device_hand x
actor_hand (Kinds.EthDriver x) = pipes_hand (four_pipes x.driver.pipes)
actor_hand (Kinds.NetVirtRx x) = sharer_hand x.work
actor_hand (Kinds.NetCopier x) = copier_hand x
actor_hand (Kinds.NetClient x) = client_hand x
actor_hand (Kinds.NetVirtTx x) = traffic_hand x.work
actor_hand (Kinds.DiskDevice x) = disk_hand x.device
actor_hand (Kinds.BlkDriver x) = pipes_hand (two_pipes x.driver.pipes)
actor_hand (Kinds.BlkVirt x) = bodies_of (work_cargo x.work)
actor_hand (Kinds.BlkClient x) = blk_client_hand x
actor_hand (Kinds.Rogue x) = x.kept.items

-- the numbers of queues
abbrev pub numbers : List QueueId → List ℕ
numbers qs = map (λ q. q.0) qs

-- pages by their pools, their numbers and their lengths
abbrev pub pages_at : List Paged → List PageAt
pages_at pages =
    map (λ p. record { pool = p.pool.0; number = p.no; long = length p.bytes }) pages

-- a hostile client's part, where its journal begins with this to do
abbrev pub rogue_part : Rogue → Left → RoguePart
rogue_part x start = record {
  kind = x.kind;
  inputs = numbers x.inputs.items;
  outputs = numbers x.outputs.items;
  start = start;
  pages = pages_at x.start.value.items;
}

-- what it is made of
abbrev pub part_of : Actor → Part
part_of (Kinds.UartDevice x) =
    UartPart x.terminal.output.queue.0 x.terminal.input.queue.0 x.terminal.script
part_of (Kinds.UartDriver x) =
    DriverPart x.driver.pipes.first.input.queue.0 x.driver.pipes.rest.output.queue.0
    x.driver.pipes.first.output.queue.0 x.driver.pipes.rest.input.queue.0
part_of (Kinds.SerialVirtRx x) =
    RxPart x.input.queue.0 (numbers (outlet_queues x.outputs)) x.drops.items
part_of (Kinds.SerialVirtTx x) = TxPart x.output.queue.0 (numbers (intake_queues x.inputs))
part_of (Kinds.SerialClient x) =
    ClientPart x.terminal.input.queue.0 x.terminal.output.queue.0 x.terminal.script
part_of (Kinds.EthDevice x) = NetworkPart (device_part x)
part_of (Kinds.EthDriver x) = NetworkPart (driver_part (four_pipes x.driver.pipes))
part_of (Kinds.NetVirtRx x) = NetworkPart (receiver_part x)
part_of (Kinds.NetCopier x) = NetworkPart (copier_part x)
part_of (Kinds.NetClient x) = NetworkPart (client_part x)
part_of (Kinds.NetVirtTx x) = SendingPart (send_part x)
part_of (Kinds.DiskDevice x) = BlockPart (disk_part x.start.value x.device)
part_of (Kinds.BlkDriver x) = BlockPart (blk_driver_part (two_pipes x.driver.pipes))
part_of (Kinds.BlkVirt x) = BlockPart (virt_part x)
part_of (Kinds.BlkClient x) = BlockPart (blk_client_part x)
part_of (Kinds.Rogue x) = HostilePart (rogue_part x (left_at_start x))

-- the length of a client's record: how many bytes, frames, or replies
abbrev pub record_length : Actor → ℕ
record_length (Kinds.UartDevice x) = 0
record_length (Kinds.UartDriver x) = 0
record_length (Kinds.SerialVirtRx x) = 0
record_length (Kinds.SerialVirtTx x) = 0
record_length (Kinds.SerialClient x) = length x.terminal.recorded.shown
record_length (Kinds.EthDevice x) = 0
record_length (Kinds.EthDriver x) = 0
record_length (Kinds.NetVirtRx x) = 0
record_length (Kinds.NetCopier x) = 0
record_length (Kinds.NetClient x) = length x.frames.tape.shown
record_length (Kinds.NetVirtTx x) = 0
record_length (Kinds.DiskDevice x) = 0
record_length (Kinds.BlkDriver x) = 0
record_length (Kinds.BlkVirt x) = 0
record_length (Kinds.BlkClient x) = length x.asking.kept.shown
record_length (Kinds.Rogue x) = 0

-- whether a step of the actor answers its event; a step of another writes it where it stays
abbrev pub answers_event : Actor → Bool
answers_event (Kinds.UartDevice x) = false
answers_event (Kinds.UartDriver x) = false
answers_event (Kinds.SerialVirtRx x) = false
answers_event (Kinds.SerialVirtTx x) = true
answers_event (Kinds.SerialClient x) = false
answers_event (Kinds.EthDevice x) = true
answers_event (Kinds.EthDriver x) = false
answers_event (Kinds.NetVirtRx x) = true
answers_event (Kinds.NetCopier x) = true
answers_event (Kinds.NetClient x) = true
answers_event (Kinds.NetVirtTx x) = true
answers_event (Kinds.DiskDevice x) = true
answers_event (Kinds.BlkDriver x) = false
answers_event (Kinds.BlkVirt x) = true
answers_event (Kinds.BlkClient x) = true
answers_event (Kinds.Rogue x) = true

-- what an actor counted as bad: a sending virtualiser of the network the descriptors that came bad
-- from its clients, a block virtualiser the requests, and an actor of another kind nothing
abbrev pub bad_of : Actor → ℕ
bad_of (Kinds.UartDevice x) = 0
bad_of (Kinds.UartDriver x) = 0
bad_of (Kinds.SerialVirtRx x) = 0
bad_of (Kinds.SerialVirtTx x) = 0
bad_of (Kinds.SerialClient x) = 0
bad_of (Kinds.EthDevice x) = 0
bad_of (Kinds.EthDriver x) = 0
bad_of (Kinds.NetVirtRx x) = 0
bad_of (Kinds.NetCopier x) = 0
bad_of (Kinds.NetClient x) = 0
bad_of (Kinds.NetVirtTx x) = bad_count x.work
bad_of (Kinds.DiskDevice x) = 0
bad_of (Kinds.BlkDriver x) = 0
bad_of (Kinds.BlkVirt x) = blk_bad_count x.work.desk
bad_of (Kinds.BlkClient x) = 0
bad_of (Kinds.Rogue x) = 0

-- how many buffers of a pool an actor lent, by the pool's number: a receiving virtualiser of the
-- network those of its own pool that are with a receiver, and an actor of another kind none
abbrev pub actor_lent : Actor → ℕ → ℕ
actor_lent (Kinds.UartDevice x) pool = 0
actor_lent (Kinds.UartDriver x) pool = 0
actor_lent (Kinds.SerialVirtRx x) pool = 0
actor_lent (Kinds.SerialVirtTx x) pool = 0
actor_lent (Kinds.SerialClient x) pool = 0
actor_lent (Kinds.EthDevice x) pool = 0
actor_lent (Kinds.EthDriver x) pool = 0
actor_lent (Kinds.NetVirtRx x) pool =
    if x.work.stock.pool.0 == pool then lent_many x.work.stock.buffers x.work.lent else 0
actor_lent (Kinds.NetCopier x) pool = 0
actor_lent (Kinds.NetClient x) pool = 0
actor_lent (Kinds.NetVirtTx x) pool = 0
actor_lent (Kinds.DiskDevice x) pool = 0
actor_lent (Kinds.BlkDriver x) pool = 0
actor_lent (Kinds.BlkVirt x) pool = 0
actor_lent (Kinds.BlkClient x) pool = 0
actor_lent (Kinds.Rogue x) pool = 0

-- the same actor without the last looks
abbrev pub Forgot : Actor → Actor → Type 0
Forgot (Kinds.UartDevice x) (Kinds.UartDevice y) = y.terminal ≡ terminal_forgotten x.terminal
Forgot (Kinds.UartDriver x) (Kinds.UartDriver y) =
    (two_pipes y.driver.pipes ≡ map pipe_forgotten (two_pipes x.driver.pipes))
    × (y.driver.turn ≡ x.driver.turn)
Forgot (Kinds.SerialVirtRx x) (Kinds.SerialVirtRx y) = RxForgot x y
Forgot (Kinds.SerialVirtTx x) (Kinds.SerialVirtTx y) = TxForgot x y
Forgot (Kinds.SerialClient x) (Kinds.SerialClient y) = y.terminal ≡ terminal_forgotten x.terminal
Forgot (Kinds.EthDevice x) (Kinds.EthDevice y) = y ≡ device_forgotten x
Forgot (Kinds.EthDriver x) (Kinds.EthDriver y) =
    (four_pipes y.driver.pipes ≡ map pipe_forgotten (four_pipes x.driver.pipes))
    × (y.driver.turn ≡ x.driver.turn)
Forgot (Kinds.NetVirtRx x) (Kinds.NetVirtRx y) = NetRxForgot x y
Forgot (Kinds.NetCopier x) (Kinds.NetCopier y) = y ≡ copier_forgotten x
Forgot (Kinds.NetClient x) (Kinds.NetClient y) = y ≡ client_forgotten x
Forgot (Kinds.NetVirtTx x) (Kinds.NetVirtTx y) = NetTxForgot x y
Forgot (Kinds.DiskDevice x) (Kinds.DiskDevice y) =
    (y.device ≡ disk_forgotten x.device) × (y.start ≡ x.start)
Forgot (Kinds.BlkDriver x) (Kinds.BlkDriver y) =
    (two_pipes y.driver.pipes ≡ map pipe_forgotten (two_pipes x.driver.pipes))
    × (y.driver.turn ≡ x.driver.turn)
Forgot (Kinds.BlkVirt x) (Kinds.BlkVirt y) = BlkVirtForgot x y
Forgot (Kinds.BlkClient x) (Kinds.BlkClient y) = y ≡ blk_client_forgotten x
Forgot (Kinds.Rogue x) (Kinds.Rogue y) = HasForgotten x y
Forgot x y = ⊥

-- a call is at one of its ends; a hostile client's store is at a queue of which it has one
abbrev pub IsActorCall : Actor → Event → Type 0
IsActorCall (Kinds.UartDevice x) e = ActorEnd (Kinds.UartDevice x) (role_of e.op) e.queue.0
IsActorCall (Kinds.UartDriver x) e = ActorEnd (Kinds.UartDriver x) (role_of e.op) e.queue.0
IsActorCall (Kinds.SerialVirtRx x) e = ActorEnd (Kinds.SerialVirtRx x) (role_of e.op) e.queue.0
IsActorCall (Kinds.SerialVirtTx x) e = ActorEnd (Kinds.SerialVirtTx x) (role_of e.op) e.queue.0
IsActorCall (Kinds.SerialClient x) e = ActorEnd (Kinds.SerialClient x) (role_of e.op) e.queue.0
IsActorCall (Kinds.EthDevice x) e = ActorEnd (Kinds.EthDevice x) (role_of e.op) e.queue.0
IsActorCall (Kinds.EthDriver x) e = ActorEnd (Kinds.EthDriver x) (role_of e.op) e.queue.0
IsActorCall (Kinds.NetVirtRx x) e = ActorEnd (Kinds.NetVirtRx x) (role_of e.op) e.queue.0
IsActorCall (Kinds.NetCopier x) e = ActorEnd (Kinds.NetCopier x) (role_of e.op) e.queue.0
IsActorCall (Kinds.NetClient x) e = ActorEnd (Kinds.NetClient x) (role_of e.op) e.queue.0
IsActorCall (Kinds.NetVirtTx x) e = ActorEnd (Kinds.NetVirtTx x) (role_of e.op) e.queue.0
IsActorCall (Kinds.DiskDevice x) e = ActorEnd (Kinds.DiskDevice x) (role_of e.op) e.queue.0
IsActorCall (Kinds.BlkDriver x) e = ActorEnd (Kinds.BlkDriver x) (role_of e.op) e.queue.0
IsActorCall (Kinds.BlkVirt x) e = ActorEnd (Kinds.BlkVirt x) (role_of e.op) e.queue.0
IsActorCall (Kinds.BlkClient x) e = ActorEnd (Kinds.BlkClient x) (role_of e.op) e.queue.0
IsActorCall (Kinds.Rogue x) e = IsOwnCall x e

-- a step may be asked of it: of a hostile client where an act that makes a call is left and each of
-- its queues is wild
abbrev pub MayStep : (ℕ → Type 0) → Actor → Type 0
MayStep wild (Kinds.UartDevice x) = Unit {0}
MayStep wild (Kinds.UartDriver x) = Unit {0}
MayStep wild (Kinds.SerialVirtRx x) = Unit {0}
MayStep wild (Kinds.SerialVirtTx x) = Unit {0}
MayStep wild (Kinds.SerialClient x) = Unit {0}
MayStep wild (Kinds.EthDevice x) = Unit {0}
MayStep wild (Kinds.EthDriver x) = Unit {0}
MayStep wild (Kinds.NetVirtRx x) = Unit {0}
MayStep wild (Kinds.NetCopier x) = Unit {0}
MayStep wild (Kinds.NetClient x) = Unit {0}
MayStep wild (Kinds.NetVirtTx x) = Unit {0}
MayStep wild (Kinds.DiskDevice x) = Unit {0}
MayStep wild (Kinds.BlkDriver x) = Unit {0}
MayStep wild (Kinds.BlkVirt x) = Unit {0}
MayStep wild (Kinds.BlkClient x) = Unit {0}
MayStep wild (Kinds.Rogue x) =
    (is_done (left_of x) ≡ false) × All (λ q. wild q.0) (ends_of x)

-- what it is made of once it forgot its last looks: a hostile client's journal begins with what it
-- has yet to do then
abbrev pub part_anew : Actor → Part
part_anew (Kinds.UartDevice x) = part_of (Kinds.UartDevice x)
part_anew (Kinds.UartDriver x) = part_of (Kinds.UartDriver x)
part_anew (Kinds.SerialVirtRx x) = part_of (Kinds.SerialVirtRx x)
part_anew (Kinds.SerialVirtTx x) = part_of (Kinds.SerialVirtTx x)
part_anew (Kinds.SerialClient x) = part_of (Kinds.SerialClient x)
part_anew (Kinds.EthDevice x) = part_of (Kinds.EthDevice x)
part_anew (Kinds.EthDriver x) = part_of (Kinds.EthDriver x)
part_anew (Kinds.NetVirtRx x) = part_of (Kinds.NetVirtRx x)
part_anew (Kinds.NetCopier x) = part_of (Kinds.NetCopier x)
part_anew (Kinds.NetClient x) = part_of (Kinds.NetClient x)
part_anew (Kinds.NetVirtTx x) = part_of (Kinds.NetVirtTx x)
part_anew (Kinds.DiskDevice x) = part_of (Kinds.DiskDevice x)
part_anew (Kinds.BlkDriver x) = part_of (Kinds.BlkDriver x)
part_anew (Kinds.BlkVirt x) = part_of (Kinds.BlkVirt x)
part_anew (Kinds.BlkClient x) = part_of (Kinds.BlkClient x)
part_anew (Kinds.Rogue x) = HostilePart (rogue_part x
    (record { acts = (left_of x).acts; looked = false; kept = (left_of x).kept }))
