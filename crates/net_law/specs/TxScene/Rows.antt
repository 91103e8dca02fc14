-- What the sending virtualiser may have put for what it took, of items and the names of their
-- pages, whoever its clients are.
use Rattle.std.specs.Prelude.{◌≡◌, ◌*◌, ◌==◌, ◌&&◌, ◌<◌, ℕ, Bool, false, not, nat_le, nat_lt, Some}
use Rattle.std.specs.Prelude.{None, List, [], ◌∷◌, map, slice_get}
use Rattle.std.specs.List.{filter}
use Rattle.cargo_core.specs.Lists.{PrefixMerge}
use Rattle.cargo_core.specs.declared.item.Item.{Item}
use Rattle.play_core.specs.Moved.{Moved}
use Rattle.play_core.specs.Names.{Named, Names, Wild, by_sort, items_in, named}
use Rattle.play_core.specs.Totals.{total}
use Rattle.buffer_kit.specs.Entries.{addr_of, len_of}
use Rattle.net_law.specs.TxParts.Parts.{SendPart, Shipper}
use Rattle.net_law.specs.TxParts.Rows.{IsOffset, at_device, at_home}

-- a descriptor of a client is good, by its item and the name of the page that it carries
abbrev pub is_good_at : Shipper → Named → Bool
is_good_at c (item, None) = false
is_good_at c (item, Some tag) =
    (tag.pool == c.pool.number) && (nat_lt tag.number c.pool.buffers
    && ((addr_of item == tag.number * c.pool.size)
    && (nat_le 14 (len_of item) && nat_le (len_of item) c.most)))

-- of what has names, the good descriptors
abbrev pub good_in : Shipper → List Named → List Named
good_in c xs = filter (is_good_at c) xs

-- and the bad ones
abbrev pub bad_in : Shipper → List Named → List Named
bad_in c xs = filter (λ x. not (is_good_at c x)) xs

-- of what came from a client, the good descriptors: all that came, where the client isn't hostile,
-- and no name is asked
abbrev pub goods : Wild → Names → Moved → Shipper → List Item
goods wild names m c = by_sort (wild c.active)
    (items_in (good_in c (named (m.taken c.active) (names c.active)))) (m.taken c.active)

-- of what came from a client, the bad descriptors
abbrev pub bads : Wild → Names → Moved → Shipper → List Item
bads wild names m c = by_sort (wild c.active)
    (items_in (bad_in c (named (m.taken c.active) (names c.active)))) []

-- of what went back to a client, the bad ones
abbrev pub bads_back : Wild → Names → Moved → Shipper → List Item
bads_back wild names m c = by_sort (wild c.active)
    (items_in (bad_in c (named (m.sent c.free) (names c.free)))) []

-- the good descriptors that came from each client, with device addresses
abbrev pub all_goods : Wild → Names → List Shipper → Moved → List (List Item)
all_goods wild names clients m =
    map (λ (c : Shipper). at_device c.pool (goods wild names m c)) clients

-- how many good ones came
abbrev pub goods_due : Wild → Names → List Shipper → Moved → ℕ
goods_due wild names clients m = total (all_goods wild names clients m)

-- what is to go back to a client: its bad descriptors as they are, and what came back in its range
abbrev pub owed_back : Wild → Names → SendPart → Moved → Shipper → List (List Item)
owed_back wild names p m c = bads wild names m c ∷ at_home c.pool (m.taken p.free) ∷ []

-- how many entries are to go back to a client
abbrev pub back_due : Wild → Names → SendPart → Moved → Shipper → ℕ
back_due wild names p m c = total (owed_back wild names p m c)

-- what it may have put: to the driver a merge of beginnings of the good descriptors of each client,
-- each with its device address; and to each client a merge of beginnings of its bad ones and of
-- what came back in its range. Each good descriptor came at a buffer of its client, and no buffer
-- is empty
pub record ServesBoth (wild : Wild) (names : Names) (p : SendPart) (m : Moved) : Type 0 where
  pub sized : (k : ℕ) (c : Shipper) → slice_get p.clients k ≡ Some c → 0 < c.pool.size
  pub came : (k : ℕ) (c : Shipper) → slice_get p.clients k ≡ Some c → (j : ℕ) (item : Item)
      → slice_get (goods wild names m c) j ≡ Some item → IsOffset c.pool item
  pub merges : PrefixMerge (all_goods wild names p.clients m) (m.sent p.active)
  pub returns : (k : ℕ) (c : Shipper) → slice_get p.clients k ≡ Some c
      → PrefixMerge (owed_back wild names p m c) (m.sent c.free)
