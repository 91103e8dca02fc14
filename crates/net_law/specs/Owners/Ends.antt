-- The ends of the network's actors, the items that passed there, and what these name.
use Rattle.std.specs.Prelude.{◌≡◌, ◌⊎◌, ◌==◌, ℕ, if◌then◌else◌, Some, List, [], ◌∷◌}
use Rattle.std.specs.Prelude.{◌++◌, slice_get}
use Rattle.wire_core.specs.Deeds.{Cargo}
use Rattle.wire_core.specs.Ends.{Role, Consumer, Producer}
use Rattle.wire_core.specs.Lists.{Passed}
use Rattle.wire_core.specs.Queues.{items_of}
use Rattle.play_core.specs.Moved.{Moved, Seat, went}
use Rattle.play_core.specs.Wants.{intake, outlet}
use Rattle.owner_law.specs.Things.{Window, Names, Buffers, Frames, Leases, Returns, Naming}
use Rattle.owner_law.specs.Pools.Places.{numbers_from}
use Rattle.turn_kit.specs.declared.pipe.Pipe.{Pipe}
use Rattle.pipe_driver.specs.Drivers.{EachPipe}
use Rattle.buffer_kit.specs.declared.stock.Stock.{Stock}
use Rattle.device_model.specs.Ethernet.Devices.{rx_free, rx_active, tx_active, tx_free}
use Rattle.device_model.specs.declared.ethernet.EthDevice.{EthDevice}
use Rattle.net_copier.specs.declared.NetCopier.{NetCopier}
use Rattle.client_programs.specs.Net.Clients as client
use Rattle.client_programs.specs.declared.net.NetClient.{NetClient}

-- the entries that passed at an end
abbrev pub passed_at : Passed → Role → ℕ → List Cargo
passed_at passed Consumer n = passed.taken n
passed_at passed Producer n = passed.sent n

-- what went through these ends are the items of the entries that passed there
abbrev pub AreItemsOf : List Seat → Passed → Moved → Type 0
AreItemsOf seats passed m = (i : ℕ) (s : Seat) → slice_get seats i ≡ Some s
    → went m s.role s.queue ≡ items_of (passed_at passed s.role s.queue)

-- the ends of a device
abbrev pub device_ends : EthDevice → List Seat
device_ends d = intake (rx_free d) ∷ outlet (rx_active d) ∷ intake (tx_active d)
    ∷ outlet (tx_free d) ∷ []

-- the ends of a driver
abbrev pub pipe_ends : List Pipe → List Seat
pipe_ends [] = []
pipe_ends (p ∷ ps) = intake p.input.queue.0 ∷ outlet p.output.queue.0 ∷ pipe_ends ps

-- the ends of a copier
abbrev pub copier_ends : NetCopier → List Seat
copier_ends c = intake c.lease_input.queue.0 ∷ intake c.buffer_input.queue.0
    ∷ outlet c.buffer_output.queue.0 ∷ outlet c.lease_output.queue.0 ∷ []

-- the ends of a client
abbrev pub client_ends : NetClient → List Seat
client_ends c = intake (client.rx_active c) ∷ outlet (client.rx_free c)
    ∷ intake (client.tx_free c) ∷ outlet (client.tx_active c) ∷ []

-- items of a queue name buffers of these windows, which are lent where they are taken, or are not
abbrev pub NameBuffers : List Window → Names → Type 0
NameBuffers ws names = (names ≡ Buffers ws) ⊎ ((receivers : ℕ → ℕ) × (names ≡ Frames ws receivers))

-- at a device's two pairs of queues buffers are named, each pair in its own windows
pub record DeviceNames (naming : Naming) (rx tx : List Window) (d : EthDevice) : Type 0 where
  pub free : naming (rx_free d) ≡ Buffers rx
  pub active : naming (rx_active d) ≡ Buffers rx
  pub wire : naming (tx_active d) ≡ Buffers tx
  pub sent : naming (tx_free d) ≡ Buffers tx

-- a pipe's two queues name buffers in the same windows
abbrev pub PipeNames : Naming → Pipe → Type 0
PipeNames naming p = (ws : List Window) × (naming p.input.queue.0 ≡ Buffers ws)
    × NameBuffers ws (naming p.output.queue.0)

-- each pipe does
abbrev pub DriverNames : Naming → List Pipe → Type 0
DriverNames naming ps = EachPipe (PipeNames naming) ps

-- leases come to a copier, and go back; and the client's buffers pass it
pub record CopierNames (naming : Naming) (leased buffers : List Window)
    (c : NetCopier) : Type 0 where
  pub leases : naming c.lease_input.queue.0 ≡ Leases leased
  pub returns : naming c.lease_output.queue.0 ≡ Returns leased
  pub free : naming c.buffer_input.queue.0 ≡ Buffers buffers
  pub active : naming c.buffer_output.queue.0 ≡ Buffers buffers

-- the addresses by which a stock's buffers are named
abbrev pub stock_window : Stock → Window
stock_window s = record { pool = s.pool.0; base = s.base; size = s.size; buffers = s.buffers }

-- a client's buffers are named by their addresses, on their way to it and from it
pub record ClientNames (naming : Naming) (c : NetClient) : Type 0 where
  pub active : naming (client.rx_active c) ≡ Buffers (stock_window c.stock ∷ [])
  pub free : naming (client.rx_free c) ≡ Buffers (stock_window c.stock ∷ [])
  pub sends : naming (client.tx_active c) ≡ Buffers (stock_window c.outbox.stock ∷ [])
  pub sent : naming (client.tx_free c) ≡ Buffers (stock_window c.outbox.stock ∷ [])

-- the numbers of a stock's buffers in a pool
abbrev pub stock_numbers : Stock → ℕ → List ℕ
stock_numbers s pool = if s.pool.0 == pool then numbers_from 0 s.buffers else []

-- what a client has at the start: the buffers in which it receives, and those in which it sends
abbrev pub client_start : NetClient → ℕ → List ℕ
client_start c pool = stock_numbers c.stock pool ++ stock_numbers c.outbox.stock pool
