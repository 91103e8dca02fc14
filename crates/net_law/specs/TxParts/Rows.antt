-- What the sending virtualiser may have put for what it took, of items alone, where each descriptor
-- that came is good.
use Rattle.std.specs.Prelude.{◌≡◌, ◌+◌, ◌-◌, ◌*◌, ◌&&◌, ◌<◌, ℕ, Bool, nat_le, nat_lt, Some, List}
use Rattle.std.specs.Prelude.{map, slice_get}
use Rattle.std.specs.List.{filter}
use Rattle.cargo_core.specs.Items.{kind_of}
use Rattle.cargo_core.specs.Lists.{IsPrefix, PrefixMerge}
use Rattle.cargo_core.specs.declared.item.Item.{Item}
use Rattle.cargo_core.specs.declared.item.QueueKind.TheVariants as Kind
use Rattle.play_core.specs.Moved.{Moved}
use Rattle.play_core.specs.Totals.{total}
use Rattle.buffer_kit.specs.Entries.{addr_of}
use Rattle.net_virt_tx.specs.Descriptors.{with_addr}
use Rattle.owner_law.specs.Pools.Places.{PoolAt}
use Rattle.net_law.specs.TxParts.Parts.{SendPart, Shipper}

-- items with the device addresses of their buffers, where the pool's range begins at its base
abbrev pub at_device : PoolAt → List Item → List Item
at_device p items = map (λ i. with_addr (p.base + addr_of i) i) items

-- the buffer of an item is in the pool's range of device addresses
abbrev pub in_range : PoolAt → Item → Bool
in_range p i = nat_le p.base (addr_of i) && nat_lt (addr_of i) (p.base + p.buffers * p.size)

-- of these items, those in the pool's range, with their offsets there
abbrev pub at_home : PoolAt → List Item → List Item
at_home p items = map (λ i. with_addr (addr_of i - p.base) i) (filter (in_range p) items)

-- an item of the network is at a buffer of the pool, by its offset
pub record IsOffset (p : PoolAt) (item : Item) : Type 0 where
  pub number : ℕ
  pub few : number < p.buffers
  pub net : kind_of item ≡ Kind.Net
  pub begins : addr_of item ≡ number * p.size

-- what came from each client, with device addresses
abbrev pub all_sends : List Shipper → Moved → List (List Item)
all_sends clients m = map (λ (c : Shipper). at_device c.pool (m.taken c.active)) clients

-- how many descriptors came
abbrev pub sends_due : List Shipper → Moved → ℕ
sends_due clients m = total (all_sends clients m)

-- what it may have put: to the driver a merge of beginnings of what came from each client, each
-- with its device address; and to each client a beginning of what came back in its range. Each
-- descriptor came at a buffer of its client, and no buffer is empty
pub record MergesSends (p : SendPart) (m : Moved) : Type 0 where
  pub sized : (k : ℕ) (c : Shipper) → slice_get p.clients k ≡ Some c → 0 < c.pool.size
  pub came : (k : ℕ) (c : Shipper) → slice_get p.clients k ≡ Some c → (j : ℕ) (item : Item)
      → slice_get (m.taken c.active) j ≡ Some item → IsOffset c.pool item
  pub merges : PrefixMerge (all_sends p.clients m) (m.sent p.active)
  pub returns : (k : ℕ) (c : Shipper) → slice_get p.clients k ≡ Some c
      → IsPrefix (m.sent c.free) (at_home c.pool (m.taken p.free))
