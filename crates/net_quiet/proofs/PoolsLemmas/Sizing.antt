use Rattle.std.proofs.Common.{◌≡◌, ◌≢◌, ◌⊎◌, ◌==◌, ◌+◌, ◌<◌, ◌≤◌, ℕ, zero, suc, Bool, true, false, cond, Some, List, [], ◌∷◌, All, length, map, flat_map, slice_get, sum_by, count_by, refl, sym, ap, ◌∙◌, subst, arith, eq-eqb, inl, inr}
use Rattle.std.specs.Prelude.{slice_index_or}
use Rattle.std.proofs.Math.Dec.{eqb}
use Rattle.std.proofs.lemmas.Bool.{cases_lt}
use Rattle.std.proofs.lemmas.Bool.Decides.{eqb_tells}
use Rattle.std.proofs.lemmas.List.Sums.{sum_by-cons}
use Rattle.std.proofs.lemmas.Option.{get_or_from_slice_get}
use Rattle.frame_core.specs.declared.mac.Mac.{Mac}
use Rattle.play_core.specs.Sheets.{Scene}
use Rattle.play_core.proofs.Lists.{some_is, map_from, there_is, there_below}
use Rattle.owner_law.specs.Things.{Window, Names, NoBuffers, Buffer}
use Rattle.net_law.specs.Owners.Names.{ClientPools, client_names, net_names}
use Rattle.owner_law.specs.Pools.Places.{PoolAt, by_address, by_offset, sizes_of, AreNumbered}
use Rattle.net_law.specs.Owners.Lending.{receivers_of}
use Rattle.net_law.specs.Parts.Numbers.{layout_naming, lessees_from}
use Rattle.net_law.specs.Parts.Rows.{lender_of}
use Rattle.net_law.proofs.PartsLemmas.Pairs.{twice, pair_first, pair_second}
use Rattle.owner_law.specs.Pools.Lines.{IsWithin, NamesWithin, HandWithin}
use Rattle.net_quiet.specs.Pools.Sizes.{net_pools}
use Rattle.owner_law.proofs.PoolsLemmas.Sizing.{all_from, size_there}

module _ (pool : PoolAt) (pools : List ClientPools) (apart : AreNumbered (net_pools pool pools)) where
  abbrev sizes : ℕ → ℕ
  sizes = sizes_of (net_pools pool pools)

  own_size : pool.buffers ≤ sizes pool.number
  own_size = omega (arith, size_there (net_pools pool pools) 0 pool apart refl)

  rx_size : (k : ℕ) (c : ClientPools) → slice_get pools k ≡ Some c → c.rx.buffers ≤ sizes c.rx.number
  rx_size k c at = omega (arith, size_there (net_pools pool pools) (suc (twice k)) c.rx apart (pair_first (λ (x : ClientPools). x.rx) (λ x. x.tx) pools k c at))

  tx_size : (k : ℕ) (c : ClientPools) → slice_get pools k ≡ Some c → c.tx.buffers ≤ sizes c.tx.number
  tx_size k c at = omega (arith, size_there (net_pools pool pools) (suc (suc (twice k))) c.tx apart (pair_second (λ (x : ClientPools). x.rx) (λ x. x.tx) pools k c at))

  one_window : (w : Window) → IsWithin sizes w → All (IsWithin sizes) (w ∷ [])
  one_window w is = all_from (IsWithin sizes) (w ∷ []) by
    where
      by : (k : ℕ) (x : Window) → slice_get (w ∷ []) k ≡ Some x → IsWithin sizes x
      by zero x at = subst (IsWithin sizes) (some_is at) is
      by (suc k) x at = cc

  all_windows : All (IsWithin sizes) (map (λ (c : ClientPools). by_address c.tx) pools)
  all_windows = all_from (IsWithin sizes) (map (λ (c : ClientPools). by_address c.tx) pools) (λ k w at. by k w (map_from (λ (c : ClientPools). by_address c.tx) pools k w at))
    where
      by : (k : ℕ) (w : Window) → (c : ClientPools) × (slice_get pools k ≡ Some c) × (by_address c.tx ≡ w) → IsWithin sizes w
      by k w x = subst (IsWithin sizes) x.2 (tx_size k x.0 x.1)

  clients_within : (cs : List ClientPools) → ((k : ℕ) (c : ClientPools) → slice_get cs k ≡ Some c → (c.rx.buffers ≤ sizes c.rx.number) × (c.tx.buffers ≤ sizes c.tx.number)) → (n : ℕ) (x : Names) → slice_get (flat_map (client_names pool) cs) n ≡ Some x → NamesWithin sizes x
  clients_within [] each n x at = cc
  clients_within (c ∷ cs) each zero x at = subst (NamesWithin sizes) (some_is at) (one_window (by_offset pool) own_size)
  clients_within (c ∷ cs) each (suc zero) x at = subst (NamesWithin sizes) (some_is at) (one_window (by_offset pool) own_size)
  clients_within (c ∷ cs) each (suc (suc zero)) x at = subst (NamesWithin sizes) (some_is at) (one_window (by_offset c.rx) (each 0 c refl).0)
  clients_within (c ∷ cs) each (suc (suc (suc zero))) x at = subst (NamesWithin sizes) (some_is at) (one_window (by_offset c.rx) (each 0 c refl).0)
  clients_within (c ∷ cs) each (suc (suc (suc (suc zero)))) x at = subst (NamesWithin sizes) (some_is at) (one_window (by_offset c.tx) (each 0 c refl).1)
  clients_within (c ∷ cs) each (suc (suc (suc (suc (suc zero))))) x at = subst (NamesWithin sizes) (some_is at) (one_window (by_offset c.tx) (each 0 c refl).1)
  clients_within (c ∷ cs) each (suc (suc (suc (suc (suc (suc n)))))) x at = clients_within cs (λ k d d_at. each (suc k) d d_at) n x at

  all_within : (receivers : ℕ → ℕ) (n : ℕ) (x : Names) → slice_get (net_names pool receivers pools) n ≡ Some x → NamesWithin sizes x
  all_within receivers zero x at = subst (NamesWithin sizes) (some_is at) (one_window (by_address pool) own_size)
  all_within receivers (suc zero) x at = subst (NamesWithin sizes) (some_is at) (one_window (by_address pool) own_size)
  all_within receivers (suc (suc zero)) x at = subst (NamesWithin sizes) (some_is at) all_windows
  all_within receivers (suc (suc (suc zero))) x at = subst (NamesWithin sizes) (some_is at) all_windows
  all_within receivers (suc (suc (suc (suc zero)))) x at = subst (NamesWithin sizes) (some_is at) (one_window (by_address pool) own_size)
  all_within receivers (suc (suc (suc (suc (suc zero))))) x at = subst (NamesWithin sizes) (some_is at) (one_window (by_address pool) own_size)
  all_within receivers (suc (suc (suc (suc (suc (suc zero)))))) x at = subst (NamesWithin sizes) (some_is at) all_windows
  all_within receivers (suc (suc (suc (suc (suc (suc (suc zero))))))) x at = subst (NamesWithin sizes) (some_is at) all_windows
  all_within receivers (suc (suc (suc (suc (suc (suc (suc (suc n)))))))) x at = clients_within pools (λ k c c_at. (rx_size k c c_at, tx_size k c c_at)) n x at

  listed : (names : List Names) → ((n : ℕ) (x : Names) → slice_get names n ≡ Some x → NamesWithin sizes x) → (n : ℕ) → NamesWithin sizes (slice_index_or names n NoBuffers)
  listed [] each n = tt
  listed (y ∷ names) each zero = each 0 y refl
  listed (y ∷ names) each (suc n) = listed names (λ k x at. each (suc k) x at) n

  pub layout_within : (scene : Scene) (macs : List Mac) (n : ℕ) → NamesWithin sizes (layout_naming scene pool macs pools n)
  layout_within scene macs n =
      let receivers : ℕ → ℕ = receivers_of (lender_of scene.frames 4 5 pool (lessees_from 0 0 macs)).clients in
      listed (net_names pool receivers pools) (all_within receivers) n
