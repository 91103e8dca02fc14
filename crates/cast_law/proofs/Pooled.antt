-- The pools of a plan: each stands among the layout's pools at its number.
use Rattle.std.proofs.Common.{◌≡◌, ◌⊎◌, ◌+◌, ◌-◌, ◌*◌, ◌<◌, ◌≤◌, ℕ, zero, suc, Bool, true, false, cond, Option, Some, None, inl, inr, List, [], ◌∷◌, length, length-append, flat_map, slice_get, map, refl, sym, ap, ap₂, ◌∙◌, subst, eq-eqb, ne_eqb, arith}
use Rattle.std.specs.Option.{option_map, option_map_or}
use Rattle.std.proofs.lemmas.Bool.{and_parts, leb-true, ltb-true, cases_lt}
use Rattle.cargo_core.specs.Blocks.{blk_buffer_bytes}
use Rattle.cargo_core.specs.Ranges.{IsApart, is_within}
use Rattle.wire_core.specs.declared.names.PoolRow.{PoolRow}
use Rattle.play_core.proofs.Lists.{some_is, there_is, there_below}
use Rattle.sdf_plan.specs.declared.plan.Plan.{Plan}
use Rattle.sdf_plan.specs.declared.plan.Net.{Net}
use Rattle.sdf_plan.specs.declared.plan.Blk.{Blk}
use Rattle.sdf_check.specs.Valid.{Valid}
use Rattle.sdf_check.proofs.ListLemmas.{get-either}
use Rattle.trace_text.specs.declared.trace.Trace.{Trace}
use Rattle.trace_text.specs.Events.{net_clients, blk_clients}
use Rattle.trace_text.specs.Traces.{IsReadFor, per_client}
use Rattle.region_layout.specs.Rows.{net_pools as net_pool_rows, blk_pools as blk_pool_rows, blk_client_pools, each_client, pools_of, queues_of}
use Rattle.region_layout.proofs.SameLemmas.{pools_same}
use Rattle.net_law.specs.Owners.Names.{ClientPools}
use Rattle.owner_law.specs.Pools.Places.{PoolAt, sizes_of}
use Rattle.blk_law.specs.Sheets.Parts.{Sharer}
use Rattle.blk_law.specs.Sheets.Numbers.{BlkPlace, sharers_from}
use Rattle.blk_law.specs.Owners.Answering.{TakesBlocks, block_range}
use Rattle.blk_quiet.specs.Pools.Naming.{HasApartPools}
use Rattle.blk_quiet.proofs.PoolsLemmas.Naming.{sharer_from}
use Rattle.layout_laws.proofs.SeatsLemmas.Counts.{each_count}
use Rattle.actor_set.specs.Actors.{part_of}
use Rattle.actor_set.specs.declared.actor.Actor.{Actor}
use Rattle.cast_core.specs.Casts.{client_pools, client_pool, net_place, blk_place, AreCast}
use Rattle.cast_core.specs.Making.{HasPool}
use Rattle.cast_core.specs.Sources.{pool_at, first_blk_pool}
use Rattle.cast_core.proofs.Blocks.{block_size}
use Rattle.cast_core.proofs.Listing.{value_is, value_count}
use Rattle.cast_core.proofs.Rooms.{pools_apart, blk_size, has_blk_pools}
use Rattle.cast_law.specs.Pools.Places.{HasNetAt, HasBlkAt, IsPlaced, HasPools, ArePooled, pools_first, pools_behind, place_pools}
use Rattle.cast_law.specs.Places.{pool_place}
use Rattle.cast_law.proofs.Rogued.{rogues_are}
use Rattle.cast_law.proofs.Blocks.{pools_before, no_block}
use Rattle.cast_law.proofs.Joined.{whole_network, whole_block}
use Rattle.cast_law.proofs.Wired.{no_network}

-- which pool of which client stands at a place
pair_at : (n : ℕ) (value : ℕ → ClientPools) (i : ℕ) (p : PoolAt) → slice_get (flat_map (λ (c : ClientPools). c.rx ∷ c.tx ∷ []) (per_client n value)) i ≡ Some p → (c : ℕ) × (((i ≡ 2 * c) × (p ≡ (value c).rx)) ⊎ ((i ≡ 2 * c + 1) × (p ≡ (value c).tx)))
pair_at zero value i p at = absurd cc
pair_at (suc n) value zero p at = (0, inl (refl, sym (some_is at)))
pair_at (suc n) value (suc zero) p at = (0, inr (refl, sym (some_is at)))
pair_at (suc n) value (suc (suc i)) p at = next (pair_at n (λ c. value (suc c)) i p at)
  where
    next : ((c : ℕ) × (((i ≡ 2 * c) × (p ≡ (value (suc c)).rx)) ⊎ ((i ≡ 2 * c + 1) × (p ≡ (value (suc c)).tx)))) → (c : ℕ) × (((suc (suc i) ≡ 2 * c) × (p ≡ (value c).rx)) ⊎ ((suc (suc i) ≡ 2 * c + 1) × (p ≡ (value c).tx)))
    next (c, inl h) = let e = h.0 in (suc c, inl (omega (arith, e), h.1))
    next (c, inr h) = let e = h.0 in (suc c, inr (omega (arith, e), h.1))

pairs_many : (n : ℕ) (value : ℕ → ClientPools) → length (flat_map (λ (c : ClientPools). c.rx ∷ c.tx ∷ []) (per_client n value)) ≡ 2 * n
pairs_many zero value = refl
pairs_many (suc n) value = let rest = pairs_many n (λ c. value (suc c)) in omega (arith, rest)

-- of pools whose numbers are their places, each has its size by its number
size_at : (ps : List PoolAt) (first k : ℕ) (p : PoolAt) → ((i : ℕ) (q : PoolAt) → slice_get ps i ≡ Some q → q.number ≡ first + i) → slice_get ps k ≡ Some p → sizes_of ps (first + k) ≡ p.buffers
size_at [] first k p numbered at = absurd cc
size_at (q ∷ ps) first zero p numbered at = ap (λ t. cond t q.buffers (sizes_of ps (first + 0))) (eq-eqb q.number (first + 0) (numbered 0 q refl)) ∙ ap (λ (x : PoolAt). x.buffers) (some_is at)
size_at (q ∷ ps) first (suc k) p numbered at =
    let here : q.number ≡ first + 0 = numbered 0 q refl in
    let shift : first + 1 + k ≡ first + suc k = omega arith in
    ap (λ t. cond t q.buffers (sizes_of ps (first + suc k))) (ne_eqb q.number (first + suc k) (λ e. omega (arith, e, here)))
    ∙ subst (λ n. sizes_of ps n ≡ p.buffers) shift (size_at ps (first + 1) k p (λ i x x_at. let n = numbered (suc i) x x_at in omega (arith, n)) at)

module _ (plan : Plan) (trace : Trace) where
  abbrev rows : List PoolRow
  rows = pools_of plan

  abbrev count : ℕ
  count = length (net_clients plan)

  abbrev askers : ℕ
  askers = length (blk_clients plan)

  -- the network's pools, and those of the block class
  abbrev first_list : Option Net → List PoolAt
  first_list n = pools_first (option_map (λ net. net_place plan trace) n)

  abbrev then_list : Option Blk → List PoolAt
  then_list b = pools_behind (option_map (λ blk. blk_place plan trace) b)

  first_many : (n : Option Net) → plan.net ≡ n → length (first_list n) ≡ first_blk_pool plan
  first_many None is = sym (ap (λ (o : Option Net). option_map_or (λ (net : Net). 1 + 2 * length net.client) o 0) is)
  first_many (Some net) is =
      let counted : count ≡ length net.client = ap (λ (o : Option Net). length (option_map_or (λ (x : Net). x.client) o [])) is in
      let pairs = pairs_many count (client_pools plan) in
      let before : first_blk_pool plan ≡ 1 + 2 * length net.client = ap (λ (o : Option Net). option_map_or (λ (x : Net). 1 + 2 * length x.client) o 0) is in
      omega (arith, counted, pairs, before)

  then_many : (b : Option Blk) → plan.blk ≡ b → length (then_list b) ≡ length (option_map_or (blk_pool_rows plan) plan.blk [])
  unfolding blk_pool_rows blk_client_pools
  then_many None is = sym (ap (λ (o : Option Blk). length (option_map_or (blk_pool_rows plan) o [])) is)
  then_many (Some blk) is =
      let counted : askers ≡ length blk.client = ap (λ (o : Option Blk). length (option_map_or (λ (x : Blk). x.client) o [])) is in
      let values = value_count askers (client_pool plan) in
      let own : length (option_map_or (blk_pool_rows plan) plan.blk []) ≡ length (blk_pool_rows plan blk) = ap (λ (o : Option Blk). length (option_map_or (blk_pool_rows plan) o [])) is in
      let each : length (each_client (blk_client_pools plan) 0 blk.client) ≡ length blk.client = each_count (blk_client_pools plan) 1 (λ n. n) refl (λ n. omega arith) (λ c x. refl) 0 blk.client in
      let one : length (blk_pool_rows plan blk) ≡ suc (length (each_client (blk_client_pools plan) 0 blk.client)) = refl in
      omega (arith, counted, values, own, each, one)

  all_many : length (pools_of plan) ≡ length (place_pools (pool_place plan trace))
  all_many =
      let same = ap length (pools_same plan) in
      let before = option_map_or (net_pool_rows plan) plan.net [] in
      let behind = option_map_or (blk_pool_rows plan) plan.blk [] in
      let a = length-append before behind in
      let b = pools_before plan in
      let c = first_many plan.net refl in
      let d = then_many plan.blk refl in
      let e = length-append (first_list plan.net) (then_list plan.blk) in
      omega (arith, same, a, b, c, d, e)

  -- the place of a pool is its number
  first_is : (n : Option Net) (i : ℕ) (p : PoolAt) → slice_get (first_list n) i ≡ Some p → p ≡ pool_at rows i
  first_is None i p at = cc
  first_is (Some net) zero p at = sym (some_is at)
  first_is (Some net) (suc i) p at = by (pair_at count (client_pools plan) i p at)
    where
      by : ((c : ℕ) × (((i ≡ 2 * c) × (p ≡ (client_pools plan c).rx)) ⊎ ((i ≡ 2 * c + 1) × (p ≡ (client_pools plan c).tx)))) → p ≡ pool_at rows (suc i)
      by (c, inl h) = let e = h.0 in let n : 1 + 2 * c ≡ suc i = omega (arith, e) in h.1 ∙ ap (pool_at rows) n
      by (c, inr h) = let e = h.0 in let n : 2 + 2 * c ≡ suc i = omega (arith, e) in h.1 ∙ ap (pool_at rows) n

  then_is : (b : Option Blk) (i : ℕ) (p : PoolAt) → slice_get (then_list b) i ≡ Some p → p ≡ pool_at rows (first_blk_pool plan + i)
  then_is None i p at = cc
  then_is (Some blk) zero p at = let plus : first_blk_pool plan ≡ first_blk_pool plan + 0 = omega arith in sym (some_is at) ∙ ap (pool_at rows) plus
  then_is (Some blk) (suc i) p at =
      let v = value_is askers (client_pool plan) i p at in
      let next : first_blk_pool plan + 1 + i ≡ first_blk_pool plan + suc i = omega arith in
      v.1 ∙ ap (pool_at rows) next

  pool_is : (i : ℕ) (p : PoolAt) → slice_get (place_pools (pool_place plan trace)) i ≡ Some p → p ≡ pool_at rows i
  pool_is i p at = by (get-either (first_list plan.net) (then_list plan.blk) i p at)
    where
      by : (slice_get (first_list plan.net) i ≡ Some p) ⊎ ((length (first_list plan.net) ≤ i) × (slice_get (then_list plan.blk) (i - length (first_list plan.net)) ≡ Some p)) → p ≡ pool_at rows i
      by (inl h) = first_is plan.net i p h
      by (inr h) =
          let le = h.0 in
          let many = first_many plan.net refl in
          let same : first_blk_pool plan + (i - length (first_list plan.net)) ≡ i = omega (arith, le, many) in
          then_is plan.blk (i - length (first_list plan.net)) p h.1 ∙ ap (pool_at rows) same

  number_is : (i : ℕ) (p : PoolAt) → slice_get (place_pools (pool_place plan trace)) i ≡ Some p → p.number ≡ i
  number_is i p at = ap (λ (q : PoolAt). q.number) (pool_is i p at)

  -- the layout's pools are those of the plan's place, each with its size by its number
  pub pooled : HasPools (pools_of plan) (pool_place plan trace)
  pooled = record {
    many = all_many;
    numbered = λ i j p q p_at q_at same. (let a = number_is i p p_at in let b = number_is j q q_at in omega (arith, a, b, same));
    sized = λ k row at.
        let below = there_below rows k row at in
        let many = all_many in
        let p = there_is (place_pools (pool_place plan trace)) k (omega (arith, below, many)) in
        size_at (place_pools (pool_place plan trace)) 0 k p.0 (λ i q q_at. let n = number_is i q q_at in omega (arith, n)) p.1
        ∙ (ap (λ (q : PoolAt). q.buffers) (pool_is k p.0 p.1) ∙ ap (λ (o : Option PoolRow). option_map_or (λ (r : PoolRow). r.buffers) o 0) at);
  }

  -- no two pools of the block class have an address in common
  module _ (valid : Valid plan) where
    -- the pool of a number in which an address lies is there
    there : (n a : ℕ) → is_within (block_range (pool_at rows n)) a ≡ true → (row : PoolRow) × (slice_get rows n ≡ Some row) × (row.base ≤ a) × (a < row.base + row.buffers * row.size)
    there n a within = by (slice_get rows n) refl
      where
        parts : ((pool_at rows n).base ≤ a) × (a < (pool_at rows n).base + (pool_at rows n).buffers * (pool_at rows n).size)
        parts = let both = and_parts _ _ within in (leb-true (pool_at rows n).base a both.0, ltb-true a ((pool_at rows n).base + (pool_at rows n).buffers * (pool_at rows n).size) both.1)

        by : (o : Option PoolRow) → slice_get rows n ≡ o → (row : PoolRow) × (slice_get rows n ≡ Some row) × (row.base ≤ a) × (a < row.base + row.buffers * row.size)
        by None is =
            let base : (pool_at rows n).base ≡ 0 = ap (λ (o : Option PoolRow). option_map_or (λ (row : PoolRow). row.base) o 0) is in
            let size : (pool_at rows n).buffers ≡ 0 = ap (λ (o : Option PoolRow). option_map_or (λ (row : PoolRow). row.buffers) o 0) is in
            let none : (pool_at rows n).buffers * (pool_at rows n).size ≡ 0 * (pool_at rows n).size = ap (λ b. b * (pool_at rows n).size) size in
            let lt = parts.1 in
            let low = parts.0 in
            absurd (omega (arith, base, none, lt, low))
        by (Some row) is =
            let base : (pool_at rows n).base ≡ row.base = ap (λ (o : Option PoolRow). option_map_or (λ (row : PoolRow). row.base) o 0) is in
            let size : (pool_at rows n).buffers ≡ row.buffers = ap (λ (o : Option PoolRow). option_map_or (λ (row : PoolRow). row.buffers) o 0) is in
            let width : (pool_at rows n).size ≡ row.size = ap (λ (o : Option PoolRow). option_map_or (λ (row : PoolRow). row.size) o 0) is in
            let all : (pool_at rows n).buffers * (pool_at rows n).size ≡ row.buffers * row.size = ap₂ (λ b s. b * s) size width in
            let low = parts.0 in
            let high = parts.1 in
            (row, is, omega (arith, base, low), omega (arith, base, all, high))

    lower : (j k a : ℕ) → j < k → first_blk_pool plan ≤ j → is_within (block_range (pool_at rows j)) a ≡ true → is_within (block_range (pool_at rows k)) a ≡ true → ⊥
    lower j k a less past here other =
        let x = there j a here in
        let y = there k a other in
        let first_end = x.3 in
        let second_end = y.3 in
        let sized : x.0.size ≡ blk_buffer_bytes = blk_size plan j x.0 past x.1 in
        let other_sized : y.0.size ≡ blk_buffer_bytes = blk_size plan k y.0 (omega (arith, past, less)) y.1 in
        let wide : x.0.buffers * x.0.size ≡ x.0.buffers * blk_buffer_bytes = ap (λ s. x.0.buffers * s) sized in
        let other_wide : y.0.buffers * y.0.size ≡ y.0.buffers * blk_buffer_bytes = ap (λ s. y.0.buffers * s) other_sized in
        let end : a < x.0.base + x.0.size * x.0.buffers = rw sized (omega (arith, first_end, wide)) in
        let other_end : a < y.0.base + y.0.size * y.0.buffers = rw other_sized (omega (arith, second_end, other_wide)) in
        pools_apart plan valid j k x.0 y.0 less x.1 y.1 a x.2 end y.2 other_end

    is_false : (b : Bool) → (b ≡ true → ⊥) → b ≡ false
    is_false true off = absurd (off refl)
    is_false false off = refl

    ranges_apart : (j k : ℕ) → (j ≡ k → ⊥) → first_blk_pool plan ≤ j → first_blk_pool plan ≤ k → IsApart (block_range (pool_at rows j)) (block_range (pool_at rows k))
    ranges_apart j k differ low high a here = is_false (is_within (block_range (pool_at rows k)) a) (λ other. by (cases_lt j k) (cases_lt k j) other)
      where
        by : (j < k) ⊎ (k ≤ j) → (k < j) ⊎ (j ≤ k) → is_within (block_range (pool_at rows k)) a ≡ true → ⊥
        by (inl less) rest other = lower j k a less low here other
        by (inr more) (inl less) other = lower k j a less high other here
        by (inr more) (inr same) other = differ (omega (arith, more, same))

    abbrev place : BlkPlace
    place = blk_place plan trace

    -- the pool of a client of the virtualiser
    asker_pool : (k : ℕ) (c : Sharer) → slice_get (sharers_from place.first 0 place.entries place.pools) k ≡ Some c → c.pool ≡ pool_at rows (first_blk_pool plan + 1 + k)
    asker_pool k c at =
        let x = sharer_from place.first 0 place.entries place.pools k c at in
        x.2 ∙ (value_is askers (client_pool plan) k x.0 x.1).1

    takes_at : (n : ℕ) → HasPool blk_buffer_bytes rows n → TakesBlocks (pool_at rows n)
    takes_at n is =
        let some = is.some in
        let many : (pool_at rows n).buffers ≡ is.row.buffers = ap (λ (o : Option PoolRow). option_map_or (λ (r : PoolRow). r.buffers) o 0) is.there in
        let size = block_size rows n is in
        (omega (arith, some, many), omega (arith, size))

    pub apart_pools : (blk : Blk) → plan.blk ≡ Some blk → HasApartPools place
    apart_pools blk is =
        let pools = has_blk_pools plan valid blk is in
        let counted : askers ≡ length blk.client = ap (λ (o : Option Blk). length (option_map_or (λ (x : Blk). x.client) o [])) is in
        record {
          own = takes_at (first_blk_pool plan) pools.own;
          some = λ k c at.
              let x = sharer_from place.first 0 place.entries place.pools k c at in
              let lt = (value_is askers (client_pool plan) k x.0 x.1).0 in
              subst TakesBlocks (sym (asker_pool k c at)) (takes_at (first_blk_pool plan + 1 + k) (pools.client k (omega (arith, lt, counted))));
          own_apart = λ k c at. subst (λ (p : PoolAt). IsApart (block_range p) (block_range place.pool)) (sym (asker_pool k c at)) (ranges_apart (first_blk_pool plan + 1 + k) (first_blk_pool plan) (λ e. omega (arith, e)) (omega arith) (omega arith));
          apart = λ j k c d at there differ. subst (λ (p : PoolAt). IsApart (block_range p) (block_range d.pool)) (sym (asker_pool j c at)) (subst (λ (p : PoolAt). IsApart (block_range (pool_at rows (first_blk_pool plan + 1 + j))) (block_range p)) (sym (asker_pool k d there)) (ranges_apart (first_blk_pool plan + 1 + j) (first_blk_pool plan + 1 + k) (λ e. differ (omega (arith, e))) (omega arith) (omega arith)));
        }

    -- the classes with pools stand at the plan's place
    pub placed : (actors : List Actor) → IsReadFor plan trace → AreCast plan trace actors → IsPlaced (queues_of plan) (pool_place plan trace) (map part_of actors)
    placed actors read cast = record { net = first plan.net refl; blk = behind plan.blk refl; rogues = rogues_are plan trace actors valid read cast }
      where
        first : (n : Option Net) → plan.net ≡ n → HasNetAt (queues_of plan) (option_map (λ net. net_place plan trace) n) (map part_of actors)
        first None none = no_network plan trace actors valid cast none
        first (Some net) is = (whole_network plan trace actors valid read cast net is, refl)

        behind : (b : Option Blk) → plan.blk ≡ b → HasBlkAt (queues_of plan) (option_map (λ blk. blk_place plan trace) b) (map part_of actors)
        behind None none = no_block plan trace actors valid cast none
        behind (Some blk) is = (whole_block plan trace actors valid read cast blk is, apart_pools blk is)

    pub are_pooled : (actors : List Actor) → IsReadFor plan trace → AreCast plan trace actors → ArePooled (queues_of plan) (pools_of plan) (map part_of actors)
    are_pooled actors read cast = (pool_place plan trace, placed actors read cast, pooled)
