-- How much is put to the queues of the network, and how often its entries have to be moved.
use Rattle.std.specs.Prelude.{◌≡◌, ◌≢◌, ◌+◌, ◌*◌, ◌<◌, ℕ, true, Some, List, length, slice_get}
use Rattle.std.specs.Prelude.{sum_by}
use Rattle.cargo_core.specs.declared.item.Item.{Item}
use Rattle.frame_core.specs.declared.mac.Mac.{Mac}
use Rattle.wire_core.specs.declared.names.QueueRow.{QueueRow}
use Rattle.wire_core.specs.Ends.{Consumer}
use Rattle.wire_core.specs.Journal.{Hostiles}
use Rattle.wire_core.specs.Marks.{sum_below}
use Rattle.play_core.specs.Moved.{Moved, gone_at}
use Rattle.play_core.specs.Sheets.{Scene}
use Rattle.play_core.specs.Still.{Holds}
use Rattle.class_expect.specs.NetExpect.Expecting.{Program, Sink, Source, Echo}
use Rattle.net_law.specs.Owners.Names.{ClientPools}
use Rattle.owner_law.specs.Pools.Places.{PoolAt}
use Rattle.net_law.specs.Parts.Numbers.{device_at, driver_at, receiver_at, copier_at, client_at}
use Rattle.net_law.specs.Parts.Numbers.{client_first, policy_at}
use Rattle.net_law.specs.Parts.Table.{net_sheet}
use Rattle.net_law.specs.TxParts.Numbers.{NetPlace, own_pools, sender_at}
use Rattle.net_law.specs.TxParts.Rows.{in_range}
use Rattle.net_law.specs.TxParts.Table.{send_sheet}

-- how many entries were put to the queues of the class, from the first on, where it has so many
-- clients
abbrev pub net_put : (first count : ℕ) → Moved → ℕ
net_put first count m = sum_below (λ i. length (m.sent (first + i))) (8 + 6 * count)

-- how many frames a program has of its own
abbrev pub script_frames : Program → ℕ
script_frames Sink = 0
script_frames (Source script) = length script
script_frames Echo = 0

-- how often entries are moved, at most: of each frame that is received its buffer four times, and
-- for each client a lease, a buffer and perhaps an answer, ten times; of each frame of a script six
-- times; and each free buffer on its way to the device or to a copier
abbrev pub net_moves : NetPlace → (frames : List (List ℕ)) → ℕ
net_moves net frames = (4 + 10 * length net.macs) * length frames
    + 6 * sum_by script_frames net.programs + 2 * net.pool.buffers
    + sum_by (λ q. q.rx.buffers) net.pools

-- no buffer is in the range of both pools
abbrev pub AreApart : PoolAt → PoolAt → Type 0
AreApart p q = (item : Item) → in_range p item ≡ true → in_range q item ≡ true → ⊥

-- how many frames the device dropped, and the copiers for their clients
abbrev pub net_gone : NetPlace → Moved → ℕ
net_gone net m = gone_at net.device_drops m Consumer net.first
    + sum_below (λ k. gone_at (policy_at net.drops k) m Consumer (client_first net.first k + 3))
    (length net.macs)

-- the row of each actor of the class holds, at the layout's queues, where the device receives these
-- frames; each client has an address, pools and a program; each queue is there and has no hostile
-- end; and the pools in which clients send are apart
pub record IsNetwork (scene : Scene) (frames : List (List ℕ)) (hostile : Hostiles)
    (rows : List QueueRow) (m : Moved) (net : NetPlace) : Type 0 where
  pub pools_many : length net.pools ≡ length net.macs
  pub programs_many : length net.programs ≡ length net.macs
  pub device : (net_sheet scene (device_at net.first frames net.device_drops)).row m
  pub driver : (net_sheet scene (driver_at net.first)).row m
  pub receiver : (net_sheet scene (receiver_at net.first net.pool net.macs)).row m
  pub sender : (send_sheet (sender_at net.first net.most net.pools)).row m
  pub copier : (k : ℕ) → k < length net.macs
      → (net_sheet scene (copier_at net.first k (policy_at net.drops k))).row m
  pub client : (k : ℕ) (program : Program) (mac : Mac) (q : ClientPools)
      → slice_get net.programs k ≡ Some program → slice_get net.macs k ≡ Some mac
      → slice_get net.pools k ≡ Some q
      → (net_sheet scene (client_at net.first k program mac (own_pools q))).row m
  pub holds : (i : ℕ) → i < 8 + 6 * length net.macs → Holds hostile rows (net.first + i) 0
  pub apart : (j k : ℕ) (p q : ClientPools) → slice_get net.pools j ≡ Some p
      → slice_get net.pools k ≡ Some q → j ≢ k → AreApart p.tx q.tx
