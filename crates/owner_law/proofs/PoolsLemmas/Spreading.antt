use Rattle.std.proofs.Common.{◌≡◌, ◌≢◌, ◌⊎◌, ◌++◌, ℕ, true, false, cond, List, [], sym, ap, ap₂, ◌∙◌, eq-eqb, inl, inr}
use Rattle.std.proofs.Math.Dec.{eqb}
use Rattle.std.proofs.lemmas.Bool.Decides.{eqb_tells}
use Rattle.std.proofs.lemmas.List.{append-nil}
use Rattle.owner_law.specs.Pools.Places.{PoolAt, numbers_from, pool_hand}
use Rattle.owner_law.specs.Pools.Spread.{share_of}

module _ (sizes owner : ℕ → ℕ) (k : ℕ) where
  abbrev its : ℕ → List ℕ
  its pool = share_of sizes owner k pool

  its_is : (pool : ℕ) → owner pool ≡ k → its pool ≡ numbers_from 0 (sizes pool)
  its_is pool h = ap (λ t. cond t (numbers_from 0 (sizes pool)) []) (eq-eqb (owner pool) k h)

  pub its_none : (pool : ℕ) → (owner pool ≡ k → ⊥) → [] ≡ its pool
  its_none pool off = by (eqb_tells (owner pool) k)
    where
      by : ((eqb (owner pool) k ≡ true) × (owner pool ≡ k)) ⊎ ((eqb (owner pool) k ≡ false) × (owner pool ≢ k)) → [] ≡ its pool
      by (inl h) = absurd (off h.1)
      by (inr h) = sym (ap (λ t. cond t (numbers_from 0 (sizes pool)) []) h.0)

  -- a pool's own hand
  hand_here : (p : PoolAt) (pool : ℕ) → sizes p.number ≡ p.buffers → p.number ≡ pool → pool_hand p pool ≡ numbers_from 0 (sizes pool)
  hand_here p pool sized same = ap (λ t. cond t (numbers_from 0 p.buffers) []) (eq-eqb p.number pool same) ∙ ap (numbers_from 0) (sym sized ∙ ap sizes same)

  hand_away : (p : PoolAt) (pool : ℕ) → (p.number ≡ pool → ⊥) → pool_hand p pool ≡ []
  hand_away p pool off = by (eqb_tells p.number pool)
    where
      by : ((eqb p.number pool ≡ true) × (p.number ≡ pool)) ⊎ ((eqb p.number pool ≡ false) × (p.number ≢ pool)) → pool_hand p pool ≡ []
      by (inl h) = absurd (off h.1)
      by (inr h) = ap (λ t. cond t (numbers_from 0 p.buffers) []) h.0

  pub its_one : (p : PoolAt) → sizes p.number ≡ p.buffers → owner p.number ≡ k → ((n : ℕ) → owner n ≡ k → n ≡ p.number) → (pool : ℕ) → pool_hand p pool ≡ its pool
  its_one p sized his only pool = by (eqb_tells p.number pool)
    where
      by : ((eqb p.number pool ≡ true) × (p.number ≡ pool)) ⊎ ((eqb p.number pool ≡ false) × (p.number ≢ pool)) → pool_hand p pool ≡ its pool
      by (inl h) = hand_here p pool sized h.1 ∙ sym (its_is pool (ap owner (sym h.1) ∙ his))
      by (inr h) = hand_away p pool h.1 ∙ its_none pool (λ is. h.1 (sym (only pool is)))

  pub its_two : (p q : PoolAt) → sizes p.number ≡ p.buffers → sizes q.number ≡ q.buffers → (p.number ≡ q.number → ⊥) → owner p.number ≡ k → owner q.number ≡ k → ((n : ℕ) → owner n ≡ k → (n ≡ p.number) ⊎ (n ≡ q.number)) → (pool : ℕ) → pool_hand p pool ++ pool_hand q pool ≡ its pool
  its_two p q one two apart his too only pool = by (eqb_tells p.number pool) (eqb_tells q.number pool)
    where
      neither : (p.number ≢ pool) → (q.number ≢ pool) → (pool ≡ p.number) ⊎ (pool ≡ q.number) → ⊥
      neither a b (inl h) = a (sym h)
      neither a b (inr h) = b (sym h)

      by : ((eqb p.number pool ≡ true) × (p.number ≡ pool)) ⊎ ((eqb p.number pool ≡ false) × (p.number ≢ pool)) → ((eqb q.number pool ≡ true) × (q.number ≡ pool)) ⊎ ((eqb q.number pool ≡ false) × (q.number ≢ pool)) → pool_hand p pool ++ pool_hand q pool ≡ its pool
      by (inl h) (inl g) = absurd (apart (h.1 ∙ sym g.1))
      by (inl h) (inr g) = ap₂ (λ xs ys. xs ++ ys) (hand_here p pool one h.1) (hand_away q pool g.1) ∙ (append-nil (numbers_from 0 (sizes pool)) ∙ sym (its_is pool (ap owner (sym h.1) ∙ his)))
      by (inr h) (inl g) = ap₂ (λ xs ys. xs ++ ys) (hand_away p pool h.1) (hand_here q pool two g.1) ∙ sym (its_is pool (ap owner (sym g.1) ∙ too))
      by (inr h) (inr g) = ap₂ (λ xs ys. xs ++ ys) (hand_away p pool h.1) (hand_away q pool g.1) ∙ its_none pool (λ is. neither h.1 g.1 (only pool is))
