-- Each buffer of a cast's pools is there once, and none has another length than its pool's, whoever
-- is hostile.
use Rattle.std.proofs.Common.{◌≡◌, ◌⊎◌, ◌<◌, ◌≤◌, ℕ, zero, suc, Option, None, Some, List, [], ◌∷◌, flat_map, slice_get, refl, sym, ap, ◌∙◌, subst, arith, inl, inr}
use Rattle.wire_core.specs.declared.names.PoolRow.{PoolRow}
use Rattle.wire_core.specs.declared.names.QueueRow.{QueueRow}
use Rattle.play_core.specs.Sheets.{AreSeated}
use Rattle.play_core.proofs.Lists.{some_is}
use Rattle.owner_law.specs.Pools.Places.{PoolAt, own_pool}
use Rattle.buffer_kit.specs.Conserving.{the_page, of_other_length}
use Rattle.net_law.specs.Owners.Names.{ClientPools}
use Rattle.net_law.specs.Parts.Numbers.{client_at, receiver_at}
use Rattle.net_law.specs.TxParts.Numbers.{NetPlace, own_pools}
use Rattle.blk_law.specs.Sheets.Numbers.{BlkPlace, blk_client_at, virt_at}
use Rattle.actor_set.specs.Parts.{Part, NetworkPart, BlockPart}
use Rattle.actor_set.specs.Laws.Kinds.{scene_of, sheet}
use Rattle.cast_law.specs.Pools.Places.{HasBlkAt, HasNetAt, HasPools, IsPlaced, PoolPlace, place_pools, place_sizes, pools_behind, pools_first}
use Rattle.cast_law.specs.Pages.Paging.{part_pools, pools_weigh}
use Rattle.cast_law.proofs.PoolsLemmas.Blocks.{at_client as blk_client}
use Rattle.cast_law.proofs.PoolsLemmas.Calmed.{Calmed, IsLike, calmed, no_rogues}
use Rattle.cast_law.proofs.PoolsLemmas.Deals.{get_either}
use Rattle.cast_law.proofs.PoolsLemmas.Table.{at_client as net_client, at_receiver}
use Rattle.cast_law.proofs.PagesLemmas.Counting.{few, in_flat, lengths_one, pages_once}

-- a pool of a client is one of the two of a client
pool_in : (qs : List ClientPools) (i : ℕ) (p : PoolAt) → slice_get (flat_map (λ (q : ClientPools). q.rx ∷ q.tx ∷ []) qs) i ≡ Some p → (j : ℕ) × (q : ClientPools) × (slice_get qs j ≡ Some q) × ((q.rx ≡ p) ⊎ (q.tx ≡ p))
pool_in [] i p at = cc
pool_in (q ∷ qs) zero p at = (0, q, refl, inl (some_is at))
pool_in (q ∷ qs) (suc zero) p at = (0, q, refl, inr (some_is at))
pool_in (q ∷ qs) (suc (suc i)) p at = let x = pool_in qs i p at in (suc x.0, x.1, x.2, x.3)

module _ (rows : List QueueRow) (pools : List PoolRow) (place : PoolPlace) (cast : List Part) (seated : AreSeated (sheet (scene_of cast)) rows cast) (placed : IsPlaced rows place cast) (has : HasPools pools place) where
  abbrev quiet : Calmed rows place.net place.blk cast
  quiet = calmed rows place.net place.blk cast placed.net placed.blk placed.rogues seated

  quiet_placed : (c : Calmed rows place.net place.blk cast) → IsPlaced rows place c.parts
  quiet_placed c = record { net = c.net; blk = c.blk; rogues = no_rogues rows place.net place.blk c.parts c.calm }

  few_in : (c : Calmed rows place.net place.blk cast) (pool number : ℕ) → pools_weigh (the_page (record { 0 = pool }) number) cast ≤ 1
  few_in c pool number = omega (arith, c.weighs (the_page (record { 0 = pool }) number), few rows pools place c.parts c.calm c.seated (quiet_placed c) has pool number)

  once_in : (c : Calmed rows place.net place.blk cast) (pool number : ℕ) → number < place_sizes place pool → pools_weigh (the_page (record { 0 = pool }) number) cast ≡ 1
  once_in c pool number lt = sym (c.weighs (the_page (record { 0 = pool }) number)) ∙ pages_once rows pools place c.parts c.calm c.seated (quiet_placed c) has pool number lt

  -- at most once, whatever the number
  pub few_all : (pool number : ℕ) → pools_weigh (the_page (record { 0 = pool }) number) cast ≤ 1
  few_all = few_in quiet

  -- just once
  pub once_all : (pool number : ℕ) → number < place_sizes place pool → pools_weigh (the_page (record { 0 = pool }) number) cast ≡ 1
  once_all = once_in quiet

  abbrev IsLong : PoolAt → Type 0
  IsLong q = pools_weigh (of_other_length (record { 0 = q.number }) q.size) cast ≡ 0

  module _ (c : Calmed rows place.net place.blk cast) where
    -- a pool of a part of the calm cast
    long_in : (k : ℕ) (p : Part) → slice_get c.parts k ≡ Some p → (j : ℕ) (q : PoolAt) → slice_get (part_pools p) j ≡ Some q → 1 ≤ q.buffers → IsLong q
    long_in k p at j q there some =
        let x = in_flat part_pools c.parts k p at j q there in
        sym (c.weighs (of_other_length (record { 0 = q.number }) q.size)) ∙ lengths_one rows pools place c.parts c.calm c.seated (quiet_placed c) has x.0 q x.1 some

    long_part : (k : ℕ) (p q : Part) → slice_get c.parts k ≡ Some q → IsLike rows place.net place.blk p q → (j : ℕ) (a : PoolAt) → slice_get (part_pools p) j ≡ Some a → 1 ≤ a.buffers → IsLong a
    long_part k p q q_at (inl (calm, e)) j a there some = long_in k q q_at j a (ap (λ z. slice_get (part_pools z) j) e ∙ there) some
    long_part k p q q_at (inr (r, e, f)) j a there some = absurd (let none = ap (λ z. slice_get (part_pools z) j) (sym e) ∙ there in cc)

    net_long : (net : NetPlace) → HasNetAt rows (Some net) c.parts → (i : ℕ) (q : PoolAt) → slice_get (pools_first (Some net)) i ≡ Some q → 1 ≤ q.buffers → IsLong q
    net_long net has_net zero q at some =
        let x = at_receiver rows net c.parts c.calm has_net.0 has_net.1 in
        long_in x.0 (NetworkPart (receiver_at 0 net.pool net.macs)) x.1 0 q at some
    net_long net has_net (suc i) q at some = let x = pool_in net.pools i q at in by x.0 x.1 x.2 x.3
      where
        by : (j : ℕ) (p : ClientPools) → slice_get net.pools j ≡ Some p → (p.rx ≡ q) ⊎ (p.tx ≡ q) → IsLong q
        by j p p_at (inl e) =
            let x = net_client rows net c.parts c.calm has_net.0 has_net.1 j p p_at in
            long_in x.2.0 (NetworkPart (client_at 0 j x.0 x.1 (own_pools p))) x.2.1 0 (own_pool q) (ap (λ (y : PoolAt). Some (own_pool y)) e) some
        by j p p_at (inr e) =
            let x = net_client rows net c.parts c.calm has_net.0 has_net.1 j p p_at in
            long_in x.2.0 (NetworkPart (client_at 0 j x.0 x.1 (own_pools p))) x.2.1 1 (own_pool q) (ap (λ (y : PoolAt). Some (own_pool y)) e) some

    blk_long : (blk : BlkPlace) → HasBlkAt rows (Some blk) c.parts → (i : ℕ) (q : PoolAt) → slice_get (pools_behind (Some blk)) i ≡ Some q → 1 ≤ q.buffers → IsLong q
    blk_long blk has_blk zero q at some = long_in has_blk.0.virt.0 (BlockPart (virt_at blk)) has_blk.0.virt.1 0 q at some
    blk_long blk has_blk (suc i) q at some =
        let x = blk_client rows blk c.parts c.calm has_blk.0 i q at in
        long_in x.2 (BlockPart (blk_client_at blk.first i x.0 q)) x.3 0 (own_pool q) refl some

    first_long : (o : Option NetPlace) → HasNetAt rows o c.parts → (i : ℕ) (q : PoolAt) → slice_get (pools_first o) i ≡ Some q → 1 ≤ q.buffers → IsLong q
    first_long None has_net i q at some = cc
    first_long (Some net) has_net i q at some = net_long net has_net i q at some

    behind_long : (o : Option BlkPlace) → HasBlkAt rows o c.parts → (i : ℕ) (q : PoolAt) → slice_get (pools_behind o) i ≡ Some q → 1 ≤ q.buffers → IsLong q
    behind_long None has_blk i q at some = cc
    behind_long (Some blk) has_blk i q at some = blk_long blk has_blk i q at some

    long_place : (i : ℕ) (q : PoolAt) → slice_get (place_pools place) i ≡ Some q → 1 ≤ q.buffers → IsLong q
    long_place i q at some = by (get_either (pools_first place.net) (pools_behind place.blk) i q at)
      where
        by : (slice_get (pools_first place.net) i ≡ Some q) ⊎ ((j : ℕ) × (slice_get (pools_behind place.blk) j ≡ Some q)) → IsLong q
        by (inl here) = first_long place.net c.net i q here some
        by (inr (j, here)) = behind_long place.blk c.blk j q here some

  -- no buffer of a part's pool has another length
  pub lengths_part : (k : ℕ) (p : Part) → slice_get cast k ≡ Some p → (j : ℕ) (q : PoolAt) → slice_get (part_pools p) j ≡ Some q → 1 ≤ q.buffers → IsLong q
  lengths_part k p at j q there some = let x = quiet.like k p at in long_part quiet k p x.0 x.1 x.2 j q there some

  -- nor has one of any pool
  pub lengths_place : (i : ℕ) (q : PoolAt) → slice_get (place_pools place) i ≡ Some q → 1 ≤ q.buffers → IsLong q
  lengths_place = long_place quiet

  -- nor has one of a client of the block class
  pub lengths_blk : (blk : BlkPlace) → place.blk ≡ Some blk → (i : ℕ) (q : PoolAt) → slice_get blk.pools i ≡ Some q → 1 ≤ q.buffers → IsLong q
  lengths_blk blk here i q at some = blk_long quiet blk (subst (λ o. HasBlkAt rows o quiet.parts) here quiet.blk) (suc i) q at some
