-- The hostile clients of a cast: each stands at the queues of a client of its class, and has all
-- buffers of that client's pools at the start.
use Rattle.std.specs.Prelude.{◌≡◌, ◌⊎◌, ◌+◌, ◌*◌, ◌++◌, ℕ, true, Option, Some, List, [], ◌∷◌}
use Rattle.std.specs.Prelude.{slice_get}
use Rattle.cargo_core.specs.declared.item.QueueKind.TheVariants as Kind
use Rattle.wire_core.specs.declared.names.QueueRow.{QueueRow}
use Rattle.play_core.specs.Names.{wild_in}
use Rattle.owner_law.specs.Pools.Places.{PoolAt}
use Rattle.net_law.specs.Owners.Names.{ClientPools}
use Rattle.net_law.specs.Parts.Numbers.{client_first}
use Rattle.net_law.specs.TxParts.Numbers.{NetPlace}
use Rattle.blk_law.specs.Sheets.Numbers.{BlkPlace}
use Rattle.actor_set.specs.Parts.{Part, HostilePart, RoguePart}
use Rattle.actor_set.specs.Laws.Kinds.{hostiles}
use Rattle.cast_core.specs.Hostile.{pool_pages}

-- the hostile network client of a number, with these pools
pub record IsNetRogue (net : NetPlace) (k : ℕ) (q : ClientPools) (p : RoguePart) : Type 0 where
  pub there : slice_get net.pools k ≡ Some q
  pub inputs : p.inputs ≡ (client_first net.first k + 2) ∷ (client_first net.first k + 5) ∷ []
  pub outputs : p.outputs ≡ (client_first net.first k + 3) ∷ (client_first net.first k + 4) ∷ []
  pub pages : p.pages ≡ pool_pages q.rx ++ pool_pages q.tx

-- the hostile block client of a number, with this pool, at queues of requests and of responses
pub record IsBlkRogue (rows : List QueueRow) (blk : BlkPlace) (k : ℕ) (q : PoolAt) (p : RoguePart)
    : Type 0 where
  pub there : slice_get blk.pools k ≡ Some q
  pub inputs : p.inputs ≡ (blk.first + 5 + 2 * k) ∷ []
  pub outputs : p.outputs ≡ (blk.first + 4 + 2 * k) ∷ []
  pub pages : p.pages ≡ pool_pages q
  pub takes : (row : QueueRow) → slice_get rows (blk.first + 5 + 2 * k) ≡ Some row
      → row.kind ≡ Kind.Resp
  pub puts : (row : QueueRow) → slice_get rows (blk.first + 4 + 2 * k) ≡ Some row
      → row.kind ≡ Kind.Req

-- a hostile client of a class without pools, whose queues carry bytes
pub record IsBareRogue (rows : List QueueRow) (p : RoguePart) : Type 0 where
  pub input : ℕ
  pub output : ℕ
  pub inputs : p.inputs ≡ input ∷ []
  pub outputs : p.outputs ≡ output ∷ []
  pub pages : p.pages ≡ []
  pub takes : (row : QueueRow) → slice_get rows input ≡ Some row → row.kind ≡ Kind.Byte
  pub puts : (row : QueueRow) → slice_get rows output ≡ Some row → row.kind ≡ Kind.Byte

-- a hostile client of one of the classes
abbrev pub IsRogueOf : List QueueRow → Option NetPlace → Option BlkPlace → RoguePart → Type 0
IsRogueOf rows n b p = ((net : NetPlace) × (k : ℕ) × (q : ClientPools) × (n ≡ Some net)
    × IsNetRogue net k q p)
    ⊎ ((blk : BlkPlace) × (k : ℕ) × (q : PoolAt) × (b ≡ Some blk)
    × IsBlkRogue rows blk k q p)
    ⊎ IsBareRogue rows p

-- where a client's queue has a hostile end the hostile client of its number is there, and there is
-- no other hostile actor
pub record HasRogues (rows : List QueueRow) (n : Option NetPlace) (b : Option BlkPlace)
    (cast : List Part) : Type 0 where
  pub net : (net : NetPlace) → n ≡ Some net → (k : ℕ) (q : ClientPools)
      → slice_get net.pools k ≡ Some q
      → wild_in (hostiles cast) rows (client_first net.first k + 4) ≡ true
      → (j : ℕ) × (p : RoguePart) × (slice_get cast j ≡ Some (HostilePart p))
      × IsNetRogue net k q p
  pub blk : (blk : BlkPlace) → b ≡ Some blk → (k : ℕ) (q : PoolAt)
      → slice_get blk.pools k ≡ Some q
      → wild_in (hostiles cast) rows (blk.first + 4 + 2 * k) ≡ true
      → (j : ℕ) × (p : RoguePart) × (slice_get cast j ≡ Some (HostilePart p))
      × IsBlkRogue rows blk k q p
  pub only : (j : ℕ) (p : RoguePart) → slice_get cast j ≡ Some (HostilePart p)
      → IsRogueOf rows n b p
