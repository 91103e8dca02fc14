-- Which part each actor of the network's receive half plays, and what the laws ask of what passed
-- at its ends.
use Rattle.std.specs.Prelude.{◌≡◌, ℕ, true, false, Some, List, [], ◌∷◌, length, map, slice_get}
use Rattle.frame_core.specs.declared.mac.Mac.{Mac}
use Rattle.wire_core.specs.declared.names.QueueId.{QueueId}
use Rattle.wire_core.specs.Deeds.{Cargo}
use Rattle.wire_core.specs.Lists.{Passed}
use Rattle.turn_kit.specs.declared.pipe.Pipe.{Pipe}
use Rattle.buffer_kit.specs.Entries.{frame_of, len_of}
use Rattle.buffer_kit.specs.Virtualising.{from_queues, to_queues}
use Rattle.buffer_kit.specs.declared.stock.Stock.{Stock}
use Rattle.device_model.specs.Ethernet.Devices as device
use Rattle.device_model.specs.declared.ethernet.EthDevice.{EthDevice}
use Rattle.client_programs.specs.Net.Programs.{program_of, is_echo}
use Rattle.client_programs.specs.Net.Clients as client
use Rattle.client_programs.specs.declared.net.NetClient.{NetClient}
use Rattle.net_copier.specs.Copying.{is_stray, leased_bytes}
use Rattle.net_copier.specs.declared.NetCopier.{NetCopier}
use Rattle.net_virt_rx.specs.Receiving.{RxRow}
use Rattle.net_virt_rx.specs.declared.NetVirtRx.{NetVirtRx}
use Rattle.net_law.specs.RxOwners.Virtualiser.{TakesFrames}
use Rattle.owner_law.specs.Pools.Places.{PoolAt}
use Rattle.net_law.specs.Parts.Rows.{frame_at}
use Rattle.net_law.specs.Parts.Parts.{NetPart, NetDevice, NetDriver, NetReceiver}
use Rattle.net_law.specs.Parts.Parts.{NetCopier as CopierPart, NetClient as ClientPart, Way}
use Rattle.net_law.specs.Parts.Parts.{Lessee}

-- a device's part
abbrev pub device_part : EthDevice → NetPart
device_part d = NetDevice (device.rx_free d) (device.rx_active d) (device.tx_active d)
    (device.tx_free d) d.frames d.drops

-- a pipe as a way
abbrev pub way_of : Pipe → Way
way_of p = record { input = p.input.queue.0; output = p.output.queue.0 }

-- a driver's part
abbrev pub driver_part : List Pipe → NetPart
driver_part ps = NetDriver (map way_of ps)

-- a copier's part
abbrev pub copier_part : NetCopier → NetPart
copier_part c = CopierPart c.lease_input.queue.0 c.lease_output.queue.0 c.buffer_output.queue.0
    c.buffer_input.queue.0 c.drops

-- the pool of which a stock has the buffers
abbrev pub stock_pool : Stock → PoolAt
stock_pool s = record { number = s.pool.0; base = s.base; buffers = s.buffers; size = s.size }

-- a client's part
abbrev pub client_part : NetClient → NetPart
client_part c = ClientPart (program_of c.program) c.program.mac (client.rx_active c)
    (client.rx_free c) (client.tx_active c) (client.tx_free c) (stock_pool c.stock)
    (stock_pool c.outbox.stock)

-- clients with these addresses and queues
abbrev pub lessees : List Mac → (to from : List QueueId) → List Lessee
lessees [] to from = []
lessees (mac ∷ macs) [] from = []
lessees (mac ∷ macs) (q ∷ to) [] = []
lessees (mac ∷ macs) (q ∷ to) (r ∷ from) =
    record { active = q.0; free = r.0; mac = mac } ∷ lessees macs to from

-- a receiving virtualiser's clients
abbrev pub lessees_of : NetVirtRx → List Lessee
lessees_of v = lessees v.work.macs.items (to_queues v.ends) (from_queues v.ends)

-- a receiving virtualiser's part
abbrev pub receiver_part : NetVirtRx → NetPart
receiver_part v = NetReceiver v.ends.input.queue.0 v.ends.output.queue.0 (stock_pool v.work.stock)
    (lessees_of v)

-- an entry is a lease of as many bytes as its item says
pub record IsLease (c : Cargo) : Type 0 where
  pub in_turn : is_stray c ≡ false
  pub long : len_of c.0 ≡ length (leased_bytes c)

-- each of these is
abbrev pub AreLeases : List Cargo → Type 0
AreLeases cs = (k : ℕ) (c : Cargo) → slice_get cs k ≡ Some c → IsLease c

-- a receiving virtualiser took the frames of their places, and nothing out of turn
pub record ReceivesInTurn (frames : List (List ℕ)) (v : NetVirtRx) (passed : Passed) :
    Type 0 where
  pub takes : TakesFrames (frame_at frames) v passed
  pub in_turn : (row : RxRow v passed) → row.stray ≡ []

-- a client's own buffers begin at offset 0
pub record HasBuffers (c : NetClient) : Type 0 where
  pub base : c.stock.base ≡ 0
  pub spare_base : c.outbox.stock.base ≡ 0

-- an entry has a frame of as many bytes as its item says
abbrev pub IsWhole : Cargo → Type 0
IsWhole c = length (frame_of c) ≡ len_of c.0

-- each of these has
abbrev pub AreWhole : List Cargo → Type 0
AreWhole cs = (k : ℕ) (c : Cargo) → slice_get cs k ≡ Some c → IsWhole c

-- what came to an echo are entries that have whole frames
abbrev pub AnswersWhole : NetClient → Passed → Type 0
AnswersWhole c passed = is_echo c.program.kind ≡ true → AreWhole (passed.taken (client.rx_active c))
