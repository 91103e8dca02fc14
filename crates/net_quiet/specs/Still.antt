-- The whole network at the layout's queues where nobody is runnable: its actors, its pools and its
-- queues, and what went through these.
use Rattle.std.specs.Prelude.{◌≡◌, ◌+◌, ◌*◌, ◌<◌, ◌≤◌, ℕ, Bool, Some, List, [], ◌∷◌, length}
use Rattle.std.specs.Prelude.{slice_get}
use Rattle.cargo_core.specs.Ranges.{IsApart}
use Rattle.cargo_core.specs.declared.ranges.Range.{Range}
use Rattle.frame_core.specs.declared.mac.Mac.{Mac}
use Rattle.wire_core.specs.declared.names.QueueRow.{QueueRow}
use Rattle.wire_core.specs.Ends.{Consumer}
use Rattle.wire_core.specs.Journal.{Hostiles}
use Rattle.play_core.specs.Moved.{Moved, gone_at}
use Rattle.play_core.specs.Sheets.{Scene}
use Rattle.play_core.specs.Still.{Plays, Holds}
use Rattle.play_core.specs.Totals.{total}
use Rattle.play_core.specs.Wants.{Needful}
use Rattle.class_expect.specs.NetExpect.Expecting.{Program, frames_for}
use Rattle.net_law.specs.Owners.Names.{ClientPools}
use Rattle.owner_law.specs.Pools.Places.{PoolAt}
use Rattle.net_law.specs.Parts.Numbers.{client_first, device_at, driver_at, receiver_at}
use Rattle.net_law.specs.Parts.Numbers.{copier_at, client_at, policy_at}
use Rattle.net_law.specs.Parts.Rows.{FillsOut, accepted_by, leases_from, sent_lens}
use Rattle.net_law.specs.Parts.Table.{net_sheet}
use Rattle.net_law.specs.TxParts.Numbers.{NetPlace, own_pools, sender_at}
use Rattle.net_law.specs.TxParts.Table.{send_sheet}
use Rattle.net_quiet.specs.TxCast.Casting.{IsClientOf}

-- the device addresses of a pool's buffers
abbrev pub range_of : PoolAt → Range
range_of p = record { base = p.base; size = p.buffers * p.size }

-- no two clients send in buffers at one address
abbrev pub SendApart : List ClientPools → Type 0
SendApart pools = (j k : ℕ) (one other : ClientPools) → slice_get pools j ≡ Some one
    → slice_get pools k ≡ Some other → (j ≡ k → ⊥) → IsApart (range_of one.tx) (range_of other.tx)

-- each client has its pools and its program; each pool has a buffer; and no two clients send in
-- buffers at one address
pub record HasPools (net : NetPlace) : Type 0 where
  pub pools_many : length net.pools ≡ length net.macs
  pub programs_many : length net.programs ≡ length net.macs
  pub some : 1 ≤ net.pool.buffers
  pub each : (k : ℕ) (q : ClientPools) → slice_get net.pools k ≡ Some q
      → (1 ≤ q.rx.buffers) × (1 ≤ q.tx.buffers)
  pub apart : SendApart net.pools

-- the class's queues are there, have no hostile end and can hold an entry; and a queue on which
-- buffers go back to the driver, to the receiving virtualiser, to a copier or to a client can hold
-- the pool that may come to stand there
pub record HasRooms (hostile : Hostiles) (rows : List QueueRow) (net : NetPlace) : Type 0 where
  pub each : (i : ℕ) → i < 8 + 6 * length net.macs → Holds hostile rows (net.first + i) 1
  pub free : Holds hostile rows (net.first + 5) net.pool.buffers
  pub lease_free : (k : ℕ) → k < length net.macs
      → Holds hostile rows (client_first net.first k + 1) net.pool.buffers
  pub rx_free : (k : ℕ) (q : ClientPools) → slice_get net.pools k ≡ Some q
      → Holds hostile rows (client_first net.first k + 3) q.rx.buffers
  pub tx_free : (k : ℕ) (q : ClientPools) → slice_get net.pools k ≡ Some q
      → Holds hostile rows (client_first net.first k + 5) q.tx.buffers

-- how many frames the device dropped
abbrev pub device_gone : NetPlace → Moved → ℕ
device_gone net m = gone_at net.device_drops m Consumer net.first

-- how many the copier of the client of a number did
abbrev pub copier_gone : NetPlace → Moved → ℕ → ℕ
copier_gone net m k =
    gone_at (policy_at net.drops k) m Consumer (client_first net.first k + 3)

-- the whole network is among the actors: each of its actors has the ends of its sheet, and its row
-- holds. The device receives these frames, of which those were dropped that are marked, and accepts
-- those of the scene
pub record IsNetwork (hostile : Hostiles) (scene : Scene) (frames : List (List ℕ))
    (used : List Bool) (rows : List QueueRow) (actors : Needful) (net : NetPlace)
    (m : Moved) : Type 0 where
  pub pools : HasPools net
  pub rooms : HasRooms hostile rows net
  pub device : Plays hostile actors m
      (net_sheet scene (device_at net.first frames net.device_drops))
  pub fills : FillsOut used net.device_drops (device_gone net m) frames (m.taken net.first)
      (m.sent (net.first + 1)) (m.taken (net.first + 2)) (m.sent (net.first + 3))
  pub accepted : scene.frames ≡ accepted_by net.device_drops used frames
  pub driver : Plays hostile actors m (net_sheet scene (driver_at net.first))
  pub receiver : Plays hostile actors m (net_sheet scene (receiver_at net.first net.pool net.macs))
  pub sender : Plays hostile actors m (send_sheet (sender_at net.first net.most net.pools))
  pub copier : (k : ℕ) → k < length net.macs
      → Plays hostile actors m
      (net_sheet scene (copier_at net.first k (policy_at net.drops k)))
  pub client : (k : ℕ) (program : Program) (mac : Mac) (q : ClientPools)
      → IsClientOf net k program mac q
      → Plays hostile actors m (net_sheet scene (client_at net.first k program mac (own_pools q)))

-- all frames are used up; those that the device accepted came into its buffers and up to the
-- receiving virtualiser; each copier took the leases of those that are for its client, and the
-- client as many frames as these, but for those that its copier dropped
pub record ArrivesAll (scene : Scene) (frames : List (List ℕ)) (net : NetPlace)
    (m : Moved) : Type 0 where
  pub used : length (m.taken net.first) + device_gone net m ≡ length frames
  pub frames_in : length (m.taken net.first) ≡ length scene.frames
  pub received : length (m.taken (net.first + 4)) ≡ length scene.frames
  pub leased : (k : ℕ) (mac : Mac) → slice_get net.macs k ≡ Some mac
      → m.taken (client_first net.first k)
      ≡ leases_from scene.frames net.pool.base mac 0 (m.taken (net.first + 4))
  pub got : (k : ℕ) (mac : Mac) → slice_get net.macs k ≡ Some mac
      → length (m.taken (client_first net.first k + 2)) + copier_gone net m k
      ≡ length (frames_for mac scene.frames)

-- the lengths of what clients send, from a number on, where these came to them
abbrev pub lens_from : (first : ℕ) → Moved → (k : ℕ) → List Program → List Mac → List (List ℕ)
lens_from first m k [] macs = []
lens_from first m k (program ∷ programs) [] = []
lens_from first m k (program ∷ programs) (mac ∷ macs) =
    sent_lens program mac (m.taken (client_first first k + 2))
    ∷ lens_from first m (k + 1) programs macs

-- each client put as many entries to be sent as it sends frames by its program, where these came to
-- it, and the device took all of them
pub record SendsAll (net : NetPlace) (m : Moved) : Type 0 where
  pub puts : (k : ℕ) (program : Program) (mac : Mac) (q : ClientPools)
      → IsClientOf net k program mac q
      → length (m.sent (client_first net.first k + 4))
      ≡ length (sent_lens program mac (m.taken (client_first net.first k + 2)))
  pub wire : length (m.taken (net.first + 2))
      ≡ total (lens_from net.first m 0 net.programs net.macs)
