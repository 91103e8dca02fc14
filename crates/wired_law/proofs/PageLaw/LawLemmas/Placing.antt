-- Where all that is counted is at most one, it is in no two places; and where it is nothing, it is in
-- none.
use Rattle.std.proofs.Common.{◌≡◌, ◌⊎◌, ◌+◌, ◌<◌, ◌≤◌, ℕ, zero, suc, Some, List, [], ◌∷◌, slice_get, refl, sym, ap, ◌∙◌, arith, inl, inr}
use Rattle.std.specs.List.{sum_by}
use Rattle.std.proofs.lemmas.Bool.{cases_eq}
use Rattle.std.proofs.lemmas.List.Sums.{sum_by-cons}
use Rattle.wire_core.specs.Marks.{sum_below}
use Rattle.play_core.proofs.Lists.{some_is}
use Rattle.wired_law.specs.PageLaw.Holders.{PageHolder}

-- one of the first numbers
pub below_at : (f : ℕ → ℕ) (k n : ℕ) → n < k → f n ≤ sum_below f k
below_at f zero n lt = absurd (omega (arith, lt))
below_at f (suc k) n lt = by (cases_eq n k) (below_at f k n)
  where
    by : (n ≡ k) ⊎ (n ≡ k → ⊥) → (n < k → f n ≤ sum_below f k) → f n ≤ sum_below f k + f k
    by (inl e) rest = omega (arith, ap f e)
    by (inr ne) rest = let less : n < k = grind (arith, lt, ne) in omega (arith, rest less)

-- two of the first numbers
pub below_two : (f : ℕ → ℕ) (k m n : ℕ) → m < k → n < k → (m ≡ n → ⊥) → f m + f n ≤ sum_below f k
below_two f zero m n lt lt' ne = absurd (omega (arith, lt))
below_two f (suc k) m n lt lt' ne = by (cases_eq m k) (cases_eq n k) (below_two f k m n)
  where
    by : (m ≡ k) ⊎ (m ≡ k → ⊥) → (n ≡ k) ⊎ (n ≡ k → ⊥) → (m < k → n < k → (m ≡ n → ⊥) → f m + f n ≤ sum_below f k) → f m + f n ≤ sum_below f k + f k
    by (inl e) (inl g) rest = absurd (ne (e ∙ sym g))
    by (inl e) (inr g) rest = let less : n < k = grind (arith, lt', g) in omega (arith, ap f e, below_at f k n less)
    by (inr e) (inl g) rest = let less : m < k = grind (arith, lt, e) in omega (arith, ap f g, below_at f k m less)
    by (inr e) (inr g) rest =
        let less : m < k = grind (arith, lt, e) in
        let less' : n < k = grind (arith, lt', g) in
        omega (arith, rest less less' ne)

-- one of the actors
pub holder_at : (g : PageHolder → ℕ) (hs : List PageHolder) (k : ℕ) (h : PageHolder) → slice_get hs k ≡ Some h → g h ≤ sum_by g hs
holder_at g [] k h at = cc
holder_at g (x ∷ hs) zero h at = omega (arith, sum_by-cons g x hs, ap g (some_is at))
holder_at g (x ∷ hs) (suc k) h at = omega (arith, sum_by-cons g x hs, holder_at g hs k h at)

-- two of the actors
pub holders_at : (g : PageHolder → ℕ) (hs : List PageHolder) (j k : ℕ) (a b : PageHolder) → slice_get hs j ≡ Some a → slice_get hs k ≡ Some b → (j ≡ k → ⊥) → g a + g b ≤ sum_by g hs
holders_at g [] j k a b at at' ne = cc
holders_at g (x ∷ hs) zero zero a b at at' ne = absurd (ne refl)
holders_at g (x ∷ hs) zero (suc k) a b at at' ne = omega (arith, sum_by-cons g x hs, ap g (some_is at), holder_at g hs k b at')
holders_at g (x ∷ hs) (suc j) zero a b at at' ne = omega (arith, sum_by-cons g x hs, ap g (some_is at'), holder_at g hs j a at)
holders_at g (x ∷ hs) (suc j) (suc k) a b at at' ne = omega (arith, sum_by-cons g x hs, holders_at g hs j k a b at at' (λ e. ne (ap (λ n. suc n) e)))
