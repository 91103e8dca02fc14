-- What the network's actors are made from: pools, the queues of clients, and frames.
use Rattle.std.specs.Prelude.{◌≡◌, ◌+◌, ◌*◌, ◌<◌, ◌≤◌, ◌^◌, ℕ, Some, List, All, length, replicate}
use Rattle.std.specs.Prelude.{slice_get}
use Rattle.cargo_core.specs.Blocks.{blk_buffer_bytes}
use Rattle.cargo_core.specs.declared.item.Ask.{Ask}
use Rattle.cargo_core.specs.declared.ranges.Range.{Range}
use Rattle.cargo_core.specs.Pages.{Paged}
use Rattle.cargo_core.specs.Ranges.{IsApart}
use Rattle.wire_core.specs.declared.names.PoolRow.{PoolRow}
use Rattle.sdf_plan.specs.declared.plan.Plan.{Plan}
use Rattle.trace_text.specs.declared.trace.Trace.{Trace}
use Rattle.net_law.specs.Parts.Numbers.{client_first}
use Rattle.net_virt_rx.specs.declared.LeaseEnds.{LeaseEnds}
use Rattle.net_virt_tx.specs.declared.TxEnds.{TxEnds}
pub use Rattle.net_virt_tx.specs.Sending.{tx_range}
use Rattle.blk_virt.specs.declared.virtualiser.BlkEnds.{BlkEnds}
use Rattle.expect_core.specs.Expected.{client_entry}
use Rattle.cast_core.specs.Sources.{client_mac, first_blk, first_blk_pool, pool_at}

-- a new buffer of a pool, of so many bytes
abbrev pub new_page : (size pool k : ℕ) → Paged
new_page size pool k =
    record { pool = record { 0 = pool }; no = k; bytes = replicate size 0 }

-- a network client as the receiving virtualiser has it
abbrev pub lease_ends : Plan → ℕ → LeaseEnds
lease_ends plan c = record {
  mac = client_mac plan c;
  active = record { 0 = client_first 0 c };
  free = record { 0 = client_first 0 c + 1 };
}

-- a network client as the sending virtualiser has it
abbrev pub tx_ends : List PoolRow → ℕ → TxEnds
tx_ends rows c = record {
  active = record { 0 = client_first 0 c + 4 };
  free = record { 0 = client_first 0 c + 5 };
  pool = record { 0 = 2 + 2 * c };
  buffers = (pool_at rows (2 + 2 * c)).buffers;
  base = (pool_at rows (2 + 2 * c)).base;
  size = (pool_at rows (2 + 2 * c)).size;
}

-- of these clients no two have an address in common, no buffer is empty, and each ends at most at
-- 2^62
pub record HaveRanges (clients : List TxEnds) : Type 0 where
  pub apart : (j k : ℕ) (one other : TxEnds) → j < k → slice_get clients j ≡ Some one
      → slice_get clients k ≡ Some other → IsApart (tx_range other) (tx_range one)
  pub sized : All (λ (c : TxEnds). 1 ≤ c.size) clients
  pub ends : All (λ (c : TxEnds). c.base + c.buffers * c.size ≤ 2 ^ 62) clients

-- the pool of a number is there, with 1 to 512 buffers of this size, which isn't 0, and ends at
-- most at 2^62
pub record HasPool (size : ℕ) (rows : List PoolRow) (n : ℕ) : Type 0 where
  pub row : PoolRow
  pub there : slice_get rows n ≡ Some row
  pub some : 1 ≤ row.buffers
  pub few : row.buffers ≤ 512
  pub sized : row.size ≡ size
  pub large : 1 ≤ size
  pub ends : row.base + row.buffers * size ≤ 2 ^ 62

-- a pool of the network is there, with buffers of the size that its row tells
abbrev pub HasNetPool : List PoolRow → ℕ → Type 0
HasNetPool rows n = HasPool (pool_at rows n).size rows n

-- the pools of a network class with so many clients are there: the device's, and two of each
-- client, and no two clients send in buffers at one address
pub record HasPools (pools : List PoolRow) (clients : ℕ) : Type 0 where
  pub first : HasNetPool pools 0
  pub rx : (c : ℕ) → c < clients → HasNetPool pools (1 + 2 * c)
  pub tx : (c : ℕ) → c < clients → HasNetPool pools (2 + 2 * c)
  pub apart : (j k : ℕ) → j < k → k < clients
      → IsApart (tx_range (tx_ends pools k)) (tx_range (tx_ends pools j))

-- each frame has at most 65,535 bytes
abbrev pub AreShort : List (List ℕ) → Type 0
AreShort frames = All (λ frame. length frame < 2 ^ 16) frames

-- a trace has short frames for the device, and for each of so many clients
pub record HasFrames (trace : Trace) (clients : ℕ) : Type 0 where
  pub device : AreShort trace.frames
  pub count : length trace.sends ≡ clients
  pub client : (c : ℕ) (frames : List (List ℕ)) → slice_get trace.sends c ≡ Some frames
      → AreShort frames

-- a block client as the virtualiser has it
abbrev pub blk_ends : Plan → List PoolRow → ℕ → BlkEnds
blk_ends plan rows c = record {
  base = (pool_at rows (first_blk_pool plan + 1 + c)).base;
  buffers = (pool_at rows (first_blk_pool plan + 1 + c)).buffers;
  req = record { 0 = first_blk plan + 4 + 2 * c };
  resp = record { 0 = first_blk plan + 5 + 2 * c };
  pool = record { 0 = first_blk_pool plan + 1 + c };
  partition = client_entry plan c;
}

-- the device addresses of a block client's buffers
abbrev pub blk_range : BlkEnds → Range
blk_range e = record { base = e.base; size = e.buffers * blk_buffer_bytes }

-- the pools of a block class with so many clients are there, from this number on: the
-- virtualiser's, of one buffer, and one of each client, and no two clients' buffers meet
pub record HasBlkPools (plan : Plan) (rows : List PoolRow) (clients : ℕ) : Type 0 where
  pub own : HasPool blk_buffer_bytes rows (first_blk_pool plan)
  pub single : (pool_at rows (first_blk_pool plan)).buffers ≡ 1
  pub client : (c : ℕ) → c < clients → HasPool blk_buffer_bytes rows (first_blk_pool plan + 1 + c)
  pub apart : (j k : ℕ) → j < k → k < clients
      → IsApart (blk_range (blk_ends plan rows k)) (blk_range (blk_ends plan rows j))

-- a trace has requests for each of so many clients, few of each, and an image of less than 2^32
-- sectors
pub record HasAsks (trace : Trace) (clients : ℕ) : Type 0 where
  pub count : length trace.asks ≡ clients
  pub few : (c : ℕ) (asks : List Ask) → slice_get trace.asks c ≡ Some asks → length asks ≤ 1024
  pub image : length trace.image ≤ 2 ^ 25
