-- The pools and the queues of a valid plan's block class.
use Rattle.std.proofs.Common.{◌≡◌, ◌⊎◌, ◌+◌, ◌*◌, ◌<◌, ◌≤◌, ℕ, false, Option, Some, List, [], length, slice_get, sym, ap, ◌∙◌, subst, arith, inl, inr}
use Rattle.std.specs.Option.{option_map_or}
use Rattle.std.proofs.lemmas.Bool.{cases_lt}
use Rattle.cargo_core.specs.Blocks.{blk_buffer_bytes}
use Rattle.cargo_core.specs.Ranges.{IsApart}
use Rattle.cargo_core.specs.declared.ranges.Range.{Range}
use Rattle.wire_core.specs.declared.names.PoolRow.{PoolRow}
use Rattle.play_core.proofs.Lists.{there_is}
use Rattle.sdf_plan.specs.declared.plan.Plan.{Plan}
use Rattle.sdf_plan.specs.declared.plan.Blk.{Blk}
use Rattle.sdf_check.specs.Valid.{Valid}
use Rattle.trace_text.specs.declared.trace.Trace.{Trace}
use Rattle.trace_text.specs.Events.{blk_clients, is_blk_rogue}
use Rattle.region_layout.specs.Rows.{queues_of, pools_of}
use Rattle.layout_laws.specs.Sound.{IsSoundQueue}
use Rattle.layout_laws.proofs.Lists.{all-at}
use Rattle.layout_laws.proofs.Queues.{queues_sound}
use Rattle.owner_law.specs.Pools.Places.{PoolAt}
use Rattle.blk_law.specs.Sheets.Numbers.{BlkPlace}
use Rattle.blk_law.specs.Owners.Answering.{TakesBlocks}
use Rattle.blk_quiet.specs.Still.{HasClientPools, HasBlkRooms, range_of}
use Rattle.actor_set.specs.Parts.{Part}
use Rattle.actor_set.specs.Laws.Kinds.{hostiles}
use Rattle.cast_core.specs.Casts.{blk_place, client_pool}
use Rattle.cast_core.specs.Making.{HasPool, HasBlkPools, blk_ends, blk_range}
use Rattle.expect_core.specs.Expected.{client_asks, client_entry}
use Rattle.cast_core.specs.Sources.{first_blk_pool, pool_at}
use Rattle.cast_core.proofs.Blocks.{block_size}
use Rattle.cast_core.proofs.Listing.{value_count, value_is}
use Rattle.cast_core.proofs.Rooms.{has_blk_pools}
use Rattle.cast_core.proofs.Tables.{has_rows}
use Rattle.cast_law.specs.Jobs.{PlayJobs}
use Rattle.cast_law.proofs.QuietLemmas.Ends.{blk_calm}
use Rattle.cast_law.proofs.QuietLemmas.Rooms.{capacity_some, turn_apart}

module _ (plan : Plan) (trace : Trace) (valid : Valid plan) (blk : Blk) (is : plan.blk ≡ Some blk) where
  abbrev place : BlkPlace
  place = blk_place plan trace

  abbrev count : ℕ
  count = length (blk_clients plan)

  counted : count ≡ length blk.client
  counted = ap (λ (o : Option Blk). length (option_map_or (λ (b : Blk). b.client) o [])) is

  entries_many : length place.entries ≡ count
  entries_many = value_count count (client_entry plan)

  rows : HasBlkPools plan (pools_of plan) (length blk.client)
  rows = has_blk_pools plan valid blk is

  below_of : (k : ℕ) → k < count → k < length blk.client
  below_of k lt = let many = counted in omega (arith, lt, many)

  pool_takes : (n : ℕ) → HasPool blk_buffer_bytes (pools_of plan) n → TakesBlocks (pool_at (pools_of plan) n)
  pool_takes n has =
      let same : (pool_at (pools_of plan) n).buffers ≡ has.row.buffers = ap (λ (o : Option PoolRow). option_map_or (λ (r : PoolRow). r.buffers) o 0) has.there in
      let some = has.some in
      let size = block_size (pools_of plan) n has in
      (omega (arith, same, some), omega (arith, size))

  each_takes : (k : ℕ) (pool : PoolAt) → slice_get place.pools k ≡ Some pool → TakesBlocks pool
  each_takes k pool at =
      let v = value_is count (client_pool plan) k pool at in
      subst TakesBlocks (sym v.1) (pool_takes (first_blk_pool plan + 1 + k) (rows.client k (below_of k v.0)))

  abbrev wide : ℕ → ℕ → Range
  wide k size = record { base = (client_pool plan k).base; size = (client_pool plan k).buffers * size }

  -- the range of a client's pool is that of the client as the virtualiser has it
  range_is : (k : ℕ) → k < length blk.client → blk_range (blk_ends plan (pools_of plan) k) ≡ range_of (client_pool plan k)
  range_is k lt = ap (wide k) (sym (block_size (pools_of plan) (first_blk_pool plan + 1 + k) (rows.client k lt)))

  both_are : (j k : ℕ) → j < length blk.client → k < length blk.client → IsApart (blk_range (blk_ends plan (pools_of plan) j)) (blk_range (blk_ends plan (pools_of plan) k)) → IsApart (range_of (client_pool plan j)) (range_of (client_pool plan k))
  both_are j k one other apart = subst (λ (r : Range). IsApart r (range_of (client_pool plan k))) (range_is j one) (subst (λ (r : Range). IsApart (blk_range (blk_ends plan (pools_of plan) j)) r) (range_is k other) apart)

  -- no two clients have buffers at one address
  values_apart : (j k : ℕ) → j < length blk.client → k < length blk.client → (j ≡ k → ⊥) → IsApart (range_of (client_pool plan j)) (range_of (client_pool plan k))
  values_apart j k one other away = by (cases_lt j k)
    where
      by : (j < k) ⊎ (k ≤ j) → IsApart (range_of (client_pool plan j)) (range_of (client_pool plan k))
      by (inl less) = turn_apart (range_of (client_pool plan k)) (range_of (client_pool plan j)) (both_are k j other one (rows.apart j k less other))
      by (inr more) = both_are j k one other (rows.apart k j (below more) one)
        where
          below : k ≤ j → k < j
          below le = elim (cases_lt k j) [ inl less ↦ less | inr same ↦ absurd (away (omega (arith, le, same))) ]

  each_apart : (j k : ℕ) (one other : PoolAt) → slice_get place.pools j ≡ Some one → slice_get place.pools k ≡ Some other → (j ≡ k → ⊥) → IsApart (range_of one) (range_of other)
  each_apart j k one other j_at k_at away =
      let v = value_is count (client_pool plan) j one j_at in
      let u = value_is count (client_pool plan) k other k_at in
      subst (λ (p : PoolAt). IsApart (range_of p) (range_of other)) (sym v.1)
      (subst (λ (p : PoolAt). IsApart (range_of (client_pool plan j)) (range_of p)) (sym u.1) (values_apart j k (below_of j v.0) (below_of k u.0) away))

  pub blk_pools_are : HasClientPools place
  blk_pools_are = record {
    asks_many = value_count count (client_asks trace) ∙ sym entries_many;
    pools_many = value_count count (client_pool plan) ∙ sym entries_many;
    some = each_takes;
    apart = each_apart;
  }

  -- each queue is there, and can hold an entry; and none has a hostile end, where no client of the
  -- class is hostile, whoever else is
  module _ (cast : List Part) (plays : PlayJobs plan trace cast) (none : (c : ℕ) → is_blk_rogue plan c ≡ false) where
    pub blk_rooms_are : HasBlkRooms (hostiles cast) (queues_of plan) place
    blk_rooms_are i lt =
        let all = (has_rows plan valid).blk blk is in
        let many = entries_many in
        let clients = counted in
        let row = there_is (queues_of plan) (place.first + i) (omega (arith, lt, all, many, clients)) in
        let sound = all-at (IsSoundQueue plan) (queues_of plan) (queues_sound plan valid) (place.first + i) row.0 row.1 in
        record { row = row.0; there = row.1; calm = blk_calm plan trace valid cast plays (place.first + i) row.0 row.1 none (omega arith); enough = capacity_some row.0.capacity sound.capacity }
