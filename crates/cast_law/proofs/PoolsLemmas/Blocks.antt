-- Which of the block class's actors has which end of its queues.
use Rattle.std.proofs.Common.{◌≡◌, ◌⊎◌, ◌+◌, ◌-◌, ◌*◌, ◌<◌, ◌≤◌, ℕ, zero, suc, Some, List, [], ◌∷◌, length, slice_get, refl, ap, ◌∙◌, subst, arith, inl, inr}
use Rattle.std.proofs.lemmas.Bool.{cases_lt}
use Rattle.cargo_core.specs.declared.item.Ask.{Ask}
use Rattle.wire_core.specs.declared.names.QueueRow.{QueueRow}
use Rattle.wire_core.specs.Ends.{Role, Consumer, Producer}
use Rattle.play_core.specs.Sheets.{Scene}
use Rattle.play_core.specs.Wants.{intake, outlet}
use Rattle.play_core.proofs.Lists.{there_is, there_below}
use Rattle.owner_law.specs.Pools.Places.{PoolAt}
use Rattle.net_law.proofs.PartsLemmas.Pairs.{twice, pair_first, pair_second}
use Rattle.blk_law.specs.Sheets.Parts.{BlkPart, Sharer}
use Rattle.blk_law.specs.Sheets.Numbers.{BlkPlace, sharers_from, blk_client_at}
use Rattle.blk_law.specs.Sheets.Table.{blk_sheet}
use Rattle.actor_set.specs.Parts.{Part, BlockPart}
use Rattle.actor_set.specs.Laws.Kinds.{AllCalm, scene_of}
use Rattle.actor_set.proofs.LawsLemmas.Told.{none_wild}
use Rattle.wired_law.specs.Wiring.{HasBlk}

-- the virtualiser's clients by their numbers
pub sharer_there : (first from : ℕ) (entries : List ℕ) (pools : List PoolAt) (k : ℕ) (p : PoolAt) → length pools ≡ length entries → slice_get pools k ≡ Some p → (c : Sharer) × (slice_get (sharers_from first from entries pools) k ≡ Some c) × (c.req ≡ first + 4 + 2 * (from + k)) × (c.resp ≡ first + 5 + 2 * (from + k))
sharer_there first from [] [] k p many at = cc
sharer_there first from [] (q ∷ pools) k p many at = absurd (omega (arith, many))
sharer_there first from (e ∷ entries) [] k p many at = cc
sharer_there first from (e ∷ entries) (q ∷ pools) zero p many at = (record { req = first + 4 + 2 * from; resp = first + 5 + 2 * from; entry = e; pool = q }, refl, omega arith, omega arith)
sharer_there first from (e ∷ entries) (q ∷ pools) (suc k) p many at =
    let x = sharer_there first (from + 1) entries pools k p (omega (arith, many)) at in
    (x.0, x.1, omega (arith, x.2), omega (arith, x.3))

-- the client and the side of one of the clients' queues
side_of : (count m : ℕ) → m < 2 * count → (k : ℕ) × (k < count) × ((m ≡ 2 * k) ⊎ (m ≡ 2 * k + 1))
side_of zero m lt = absurd (omega (arith, lt))
side_of (suc count) zero lt = (0, omega arith, inl (omega arith))
side_of (suc count) (suc zero) lt = (0, omega arith, inr (omega arith))
side_of (suc count) (suc (suc m)) lt = next (side_of count m (omega (arith, lt)))
  where
    next : ((k : ℕ) × (k < count) × ((m ≡ 2 * k) ⊎ (m ≡ 2 * k + 1))) → (k : ℕ) × (k < suc count) × ((suc (suc m) ≡ 2 * k) ⊎ (suc (suc m) ≡ 2 * k + 1))
    next (k, lt, inl e) = (suc k, omega (arith, lt), inl (omega (arith, e)))
    next (k, lt, inr e) = (suc k, omega (arith, lt), inr (omega (arith, e)))

module _ (rows : List QueueRow) (blk : BlkPlace) (cast : List Part) (calm : AllCalm cast) (has : HasBlk rows blk cast) where
  abbrev scene : Scene
  scene = scene_of cast

  -- an actor of the block class has this end
  abbrev pub HasEnd : ℕ → Role → Type 0
  HasEnd n r = (k : ℕ) × (p : BlkPart) × (i : ℕ) × (slice_get cast k ≡ Some (BlockPart p)) × (slice_get (blk_sheet scene p).ends i ≡ Some (record { queue = n; role = r }))

  -- each client is there
  pub at_client : (k : ℕ) (p : PoolAt) → slice_get blk.pools k ≡ Some p → (asks : List Ask) × (slice_get blk.asks k ≡ Some asks) × (j : ℕ) × (slice_get cast j ≡ Some (BlockPart (blk_client_at blk.first k asks p)))
  at_client k p at =
      let below = there_below blk.pools k p at in
      let entry = there_is blk.entries k (omega (arith, below, has.pools_many)) in
      let asks = there_is blk.asks k (omega (arith, below, has.pools_many, has.asks_many)) in
      let there = has.client k entry.0 asks.0 p (record { has_entry = entry.1; has_asks = asks.1; has_pool = at }) (none_wild cast calm rows (blk.first + 4 + 2 * k)) in
      (asks.0, asks.1, there.0, there.1)

  -- at the queues of the disk, of the driver and of the virtualiser there
  first_ends : (r : Role) → HasEnd blk.first r
  first_ends Consumer = (has.disk.0, _, 0, has.disk.1, refl)
  first_ends Producer = (has.driver.0, _, 1, has.driver.1, refl)

  main_ends : (i : ℕ) (r : Role) → i < 4 → HasEnd (blk.first + i) r
  main_ends zero r lt = subst (λ n. HasEnd n r) (omega arith) (first_ends r)
  main_ends (suc zero) Consumer lt = (has.driver.0, _, 2, has.driver.1, refl)
  main_ends (suc zero) Producer lt = (has.disk.0, _, 1, has.disk.1, refl)
  main_ends (suc (suc zero)) Consumer lt = (has.driver.0, _, 0, has.driver.1, refl)
  main_ends (suc (suc zero)) Producer lt = (has.virt.0, _, 1, has.virt.1, refl)
  main_ends (suc (suc (suc zero))) Consumer lt = (has.virt.0, _, 0, has.virt.1, refl)
  main_ends (suc (suc (suc zero))) Producer lt = (has.driver.0, _, 3, has.driver.1, refl)
  main_ends (suc (suc (suc (suc i)))) r lt = absurd (omega (arith, lt))

  -- at a client's queues
  module _ (k : ℕ) (lt : k < length blk.pools) where
    pool_here : (p : PoolAt) × (slice_get blk.pools k ≡ Some p)
    pool_here = there_is blk.pools k lt

    pub served : (c : Sharer) × (slice_get (sharers_from blk.first 0 blk.entries blk.pools) k ≡ Some c) × (c.req ≡ blk.first + 4 + 2 * (0 + k)) × (c.resp ≡ blk.first + 5 + 2 * (0 + k))
    served = sharer_there blk.first 0 blk.entries blk.pools k pool_here.0 has.pools_many pool_here.1

    plus : (i : ℕ) → blk.first + i + 2 * (0 + k) ≡ blk.first + i + 2 * k
    plus i = omega arith

    asked : HasEnd (blk.first + 4 + 2 * k) Consumer
    asked =
        let seat = pair_first (λ (x : Sharer). intake x.req) (λ x. outlet x.resp) (sharers_from blk.first 0 blk.entries blk.pools) k served.0 served.1 in
        (has.virt.0, _, suc (suc (twice k)), has.virt.1, seat ∙ ap (λ n. Some (intake n)) (served.2 ∙ plus 4))

    answered : HasEnd (blk.first + 5 + 2 * k) Producer
    answered =
        let seat = pair_second (λ (x : Sharer). intake x.req) (λ x. outlet x.resp) (sharers_from blk.first 0 blk.entries blk.pools) k served.0 served.1 in
        (has.virt.0, _, suc (suc (suc (twice k))), has.virt.1, seat ∙ ap (λ n. Some (outlet n)) (served.3 ∙ plus 5))

    abbrev client : (asks : List Ask) × (slice_get blk.asks k ≡ Some asks) × (j : ℕ) × (slice_get cast j ≡ Some (BlockPart (blk_client_at blk.first k asks pool_here.0)))
    client = at_client k pool_here.0 pool_here.1

    req_ends : (r : Role) → HasEnd (blk.first + 4 + 2 * k) r
    req_ends Consumer = asked
    req_ends Producer = (client.2, blk_client_at blk.first k client.0 pool_here.0, 1, client.3, refl)

    resp_ends : (r : Role) → HasEnd (blk.first + 5 + 2 * k) r
    resp_ends Consumer = (client.2, blk_client_at blk.first k client.0 pool_here.0, 0, client.3, refl)
    resp_ends Producer = answered

  -- each end of the class's queues is one of an actor of the block class
  pub blk_ends : (n : ℕ) (r : Role) → blk.first ≤ n → n < blk.first + 4 + 2 * length blk.pools → HasEnd n r
  blk_ends n r from lt = by (cases_lt n (blk.first + 4))
    where
      by : (n < blk.first + 4) ⊎ (blk.first + 4 ≤ n) → HasEnd n r
      by (inl few) =
          let i : (j : ℕ) × (blk.first + j ≡ n) = (n - blk.first, omega (arith, from)) in
          subst (λ m. HasEnd m r) i.1 (main_ends i.0 r (omega (arith, few, i.1)))
      by (inr more) =
          let less : (j : ℕ) × (n ≡ blk.first + 4 + j) = (n - (blk.first + 4), omega (arith, more)) in
          side (side_of (length blk.pools) less.0 (omega (arith, lt, less.1))) less.0 less.1
        where
          side : (x : (k : ℕ) × (k < length blk.pools) × ((n - (blk.first + 4) ≡ 2 * k) ⊎ (n - (blk.first + 4) ≡ 2 * k + 1))) → (j : ℕ) → n ≡ blk.first + 4 + j → HasEnd n r
          side (k, k_lt, inl e) j is = let same : blk.first + 4 + 2 * k ≡ n = omega (arith, e, more) in subst (λ m. HasEnd m r) same (req_ends k k_lt r)
          side (k, k_lt, inr e) j is = let same : blk.first + 5 + 2 * k ≡ n = omega (arith, e, more) in subst (λ m. HasEnd m r) same (resp_ends k k_lt r)
