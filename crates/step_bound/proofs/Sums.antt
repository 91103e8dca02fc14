use Rattle.std.proofs.Common.{◌≡◌, ◌≢◌, ◌⊎◌, ◌+◌, ◌<◌, ◌≤◌, ℕ, zero, suc, true, false, refl, sym, ap, subst, inl, inr, arith}
use Rattle.std.proofs.Math.Dec.{eqb}
use Rattle.std.proofs.lemmas.Bool.Decides.{eqb_tells}
use Rattle.wire_core.specs.Marks.{sum_below}

pub sum_le : (f g : ℕ → ℕ) (k : ℕ) → ((n : ℕ) → n < k → f n ≤ g n) → sum_below f k ≤ sum_below g k
sum_le f g zero h = omega arith
sum_le f g (suc k) h = let a = sum_le f g k (λ n l. h n (omega (arith, l))) in let b = h k (omega arith) in omega (arith, a, b)

pub sum_same : (f g : ℕ → ℕ) (k : ℕ) → ((n : ℕ) → n < k → f n ≡ g n) → sum_below f k ≡ sum_below g k
sum_same f g zero h = refl
sum_same f g (suc k) h = let a = sum_same f g k (λ n l. h n (omega (arith, l))) in let b = h k (omega arith) in omega (arith, a, b)

split_last : (n k : ℕ) → n < suc k → (n ≡ k) ⊎ (n < k)
split_last n k l = decide (eqb_tells n k)
  where
    decide : ((eqb n k ≡ true) × (n ≡ k)) ⊎ ((eqb n k ≡ false) × (n ≢ k)) → (n ≡ k) ⊎ (n < k)
    decide (inl same) = inl same.1
    decide (inr apart) = inr (below apart.1)
      where
        below : n ≢ k → n < k
        below h = elim (lt_or n k) [ inl a ↦ a | inr b ↦ absurd (h (omega (arith, b, l))) ]
          where
            lt_or : (x y : ℕ) → (x < y) ⊎ (y ≤ x)
            lt_or x zero = inr (omega arith)
            lt_or zero (suc y) = inl (omega arith)
            lt_or (suc x) (suc y) = elim (lt_or x y) [ inl a ↦ inl (omega (arith, a)) | inr b ↦ inr (omega (arith, b)) ]

-- one more at one place
pub sum_more : (f g : ℕ → ℕ) (k x : ℕ) → x < k → ((n : ℕ) → f n ≤ g n) → f x + 1 ≤ g x → sum_below f k + 1 ≤ sum_below g k
sum_more f g zero x l h m = absurd (omega (arith, l))
sum_more f g (suc k) x l h m = elim (split_last x k l) [
  | inl same ↦ let a = sum_le f g k (λ n b. h n) in let b = subst (λ y. f y + 1 ≤ g y) same m in omega (arith, a, b)
  | inr less ↦ let a = sum_more f g k x less h m in let b = h k in omega (arith, a, b)
]

-- one place written
pub sum_written : (f g : ℕ → ℕ) (k x : ℕ) → x < k → ((n : ℕ) → n ≢ x → f n ≡ g n) → sum_below f k + g x ≡ sum_below g k + f x
sum_written f g zero x l h = absurd (omega (arith, l))
sum_written f g (suc k) x l h = elim (split_last x k l) [
  | inl same ↦ let a = sum_same f g k (λ n b. h n (λ e. absurd (omega (arith, b, e, same)))) in let b : g k ≡ g x = ap g (sym same) in let c : f k ≡ f x = ap f (sym same) in omega (arith, a, b, c)
  | inr less ↦ let a = sum_written f g k x less h in let b = h k (λ e. absurd (omega (arith, e, less))) in omega (arith, a, b)
]

-- the first place taken out
pub sum_first : (f : ℕ → ℕ) (k : ℕ) → sum_below f (suc k) ≡ f 0 + sum_below (λ n. f (suc n)) k
sum_first f zero = omega arith
sum_first f (suc k) = let h = sum_first f k in omega (arith, h)

pub sum_plus : (f g : ℕ → ℕ) (k : ℕ) → sum_below (λ n. f n + g n) k ≡ sum_below f k + sum_below g k
sum_plus f g zero = omega arith
sum_plus f g (suc k) = let h = sum_plus f g k in omega (arith, h)
