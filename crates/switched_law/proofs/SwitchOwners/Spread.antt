-- With whom the buffers of the pools are at the start.
use Rattle.std.proofs.Common.{◌≡◌, ◌≢◌, ◌+◌, ◌*◌, ◌<◌, ◌≤◌, ◌⊎◌, inl, inr, ℕ, zero, suc, true, false, cond, ltb, Some, [], ◌∷◌, length, length-append, slice_get, refl, sym, ap, ◌∙◌, subst, arith, lt-ltb, le-ltb}
use Rattle.std.proofs.Math.Dec.{eqb}
use Rattle.std.proofs.lemmas.Bool.{cases_lt}
use Rattle.std.proofs.lemmas.Bool.Decides.{eqb_tells}
use Rattle.play_core.proofs.Lists.{some_is, there_below}
use Rattle.buffer_kit.proofs.TwoLists.{get_front, get_behind}
use Rattle.line_text.specs.Lists.{per_client}
use Rattle.line_text.proofs.Rows.{length_per_client}
use Rattle.owner_law.specs.Keeping.{Keeper}
use Rattle.owner_law.specs.Pools.Places.{numbers_from}
use Rattle.owner_law.specs.Pools.Spread.{share_of, AreSpread}
use Rattle.owner_law.proofs.PoolsLemmas.Spreading.{its_two}
use Rattle.switched_law.specs.SwitchClass.Casting.{rx_pool, tx_pool}
use Rattle.switched_law.proofs.SwitchClass.Lanes.{value_at}
use Rattle.switched_law.specs.SwitchOwners.Owning.{client_keeper, switch_keeper, switch_keepers}

-- who has all of a pool: the client of each second
abbrev pub half : ℕ → ℕ
half zero = 0
half (suc zero) = 0
half (suc (suc n)) = suc (half n)

-- how many buffers a pool has
abbrev pub sizes_at : (ports pool : ℕ) → ℕ
sizes_at ports pool = cond (ltb pool (2 * ports)) 4 0

pub size_here : (ports pool : ℕ) → pool < 2 * ports → sizes_at ports pool ≡ 4
size_here ports pool lt = ap (λ b. cond b 4 0) (lt-ltb pool (2 * ports) lt)

size_past : (ports pool : ℕ) → 2 * ports ≤ pool → sizes_at ports pool ≡ 0
size_past ports pool le = ap (λ b. cond b 4 0) (le-ltb pool (2 * ports) le)

pub half_even : (k n : ℕ) → n ≡ 2 * k → half n ≡ k
half_even zero zero e = refl
half_even zero (suc n) e = absurd (omega (arith, e))
half_even (suc k) zero e = absurd (omega (arith, e))
half_even (suc k) (suc zero) e = absurd (omega (arith, e))
half_even (suc k) (suc (suc n)) e = ap suc (half_even k n (omega (arith, e)))

pub half_odd : (k n : ℕ) → n ≡ 2 * k + 1 → half n ≡ k
half_odd zero zero e = absurd (omega (arith, e))
half_odd zero (suc zero) e = refl
half_odd zero (suc (suc n)) e = absurd (omega (arith, e))
half_odd (suc k) zero e = absurd (omega (arith, e))
half_odd (suc k) (suc zero) e = absurd (omega (arith, e))
half_odd (suc k) (suc (suc n)) e = ap suc (half_odd k n (omega (arith, e)))

pub half_only : (n k : ℕ) → half n ≡ k → (n ≡ 2 * k) ⊎ (n ≡ 2 * k + 1)
half_only zero k e = inl (let z : 0 ≡ k = e in omega (arith, z))
half_only (suc zero) k e = inr (let z : 0 ≡ k = e in omega (arith, z))
half_only (suc (suc n)) k e = by (half_only n (half n) refl)
  where
    is : suc (half n) ≡ k
    is = e

    by : (n ≡ 2 * half n) ⊎ (n ≡ 2 * half n + 1) → (suc (suc n) ≡ 2 * k) ⊎ (suc (suc n) ≡ 2 * k + 1)
    by (inl h) = let s = is in inl (omega (arith, h, s))
    by (inr h) = let s = is in inr (omega (arith, h, s))

-- the keepers by their places
module _ (ports : ℕ) where
  clients_many : length (per_client ports client_keeper) ≡ ports
  clients_many = length_per_client ports client_keeper

  pub keepers_many : length (switch_keepers ports) ≡ ports + 1
  keepers_many = let n = clients_many in let m = length-append (per_client ports client_keeper) (switch_keeper ports ∷ []) in omega (arith, n, m)

  pub client_here : (k : ℕ) → k < ports → slice_get (switch_keepers ports) k ≡ Some (client_keeper k)
  client_here k lt = get_front (per_client ports client_keeper) (switch_keeper ports ∷ []) k (client_keeper k) (value_at ports client_keeper k lt)

  pub switch_here : slice_get (switch_keepers ports) ports ≡ Some (switch_keeper ports)
  switch_here =
      let place : length (per_client ports client_keeper) + 0 ≡ ports = let n = clients_many in omega (arith, n) in
      subst (λ k. slice_get (switch_keepers ports) k ≡ Some (switch_keeper ports)) place (get_behind (per_client ports client_keeper) (switch_keeper ports ∷ []) 0)

  -- what holds of each keeper
  pub all_keepers : (P : ℕ → Keeper → Type 0) → ((k : ℕ) → k < ports → P k (client_keeper k)) → P ports (switch_keeper ports) → (k : ℕ) (p : Keeper) → slice_get (switch_keepers ports) k ≡ Some p → P k p
  all_keepers P clients_do switch_does k p at = by (cases_lt k ports)
    where
      by : (k < ports) ⊎ (ports ≤ k) → P k p
      by (inl lt) = subst (P k) (some_is (sym (client_here k lt) ∙ at)) (clients_do k lt)
      by (inr le) =
          let less : k < length (switch_keepers ports) = there_below (switch_keepers ports) k p at in
          let n = keepers_many in
          let same : ports ≡ k = omega (arith, less, n, le) in
          subst (λ j. P j p) same (subst (P ports) (some_is (sym switch_here ∙ (ap (slice_get (switch_keepers ports)) same ∙ at))) switch_does)

  none_past : (pool : ℕ) → [] ≡ share_of (sizes_at ports) half ports pool
  none_past pool = by (eqb_tells (half pool) ports)
    where
      past : (pool ≡ 2 * ports) ⊎ (pool ≡ 2 * ports + 1) → sizes_at ports pool ≡ 0
      past (inl h) = size_past ports pool (omega (arith, h))
      past (inr h) = size_past ports pool (omega (arith, h))

      by : ((eqb (half pool) ports ≡ true) × (half pool ≡ ports)) ⊎ ((eqb (half pool) ports ≡ false) × (half pool ≢ ports)) → [] ≡ share_of (sizes_at ports) half ports pool
      by (inl h) = sym (ap (λ b. cond b (numbers_from 0 (sizes_at ports pool)) []) h.0 ∙ ap (numbers_from 0) (past (half_only pool ports h.1)))
      by (inr h) = sym (ap (λ b. cond b (numbers_from 0 (sizes_at ports pool)) []) h.0)

  pub spread : AreSpread (sizes_at ports) half (switch_keepers ports)
  spread = all_keepers (λ k p. (pool : ℕ) → p.hand pool ≡ share_of (sizes_at ports) half k pool)
      (λ k lt pool. its_two (sizes_at ports) half k (rx_pool k) (tx_pool k) (size_here ports (2 * k) (omega (arith, lt))) (size_here ports (2 * k + 1) (omega (arith, lt))) (λ e. let no : 2 * k ≡ 2 * k + 1 = e in absurd (omega (arith, no))) (half_even k (2 * k) refl) (half_odd k (2 * k + 1) refl) (λ n is. half_only n k is) pool)
      none_past
