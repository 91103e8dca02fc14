use Rattle.std.proofs.Common.{◌≡◌, ◌<◌, ◌≤◌, ℕ, zero, suc, Bool, true, false, cond, Some, List, [], ◌∷◌, length, map, filter, slice_get, refl, sym, ap, ◌∙◌, subst, arith}

abbrev pub IsIn : {T : Type 0} → T → List T → Type 0
IsIn x xs = (k : ℕ) × (slice_get xs k ≡ Some x)

-- no value stands twice
abbrev pub Distinct : {T : Type 0} → List T → Type 0
Distinct [] = Unit {0}
Distinct (x ∷ xs) = (IsIn x xs → ⊥) × Distinct xs

pub some_is : {X : Type 0} {a b : X} → Some a ≡ Some b → a ≡ b
some_is h = cc

pub distinct_of : {T : Type 0} (xs : List T) → ((i j : ℕ) (a : T) → i < j → slice_get xs i ≡ Some a → slice_get xs j ≡ Some a → ⊥) → Distinct xs
distinct_of [] h = tt
distinct_of (x ∷ xs) h = (λ s. h 0 (suc s.0) x (omega arith) refl s.1, distinct_of xs (λ i j a lt p q. h (suc i) (suc j) a (omega arith) p q))

-- a list without the value at a place
abbrev without : {T : Type 0} → List T → ℕ → List T
without [] k = []
without (y ∷ ys) zero = ys
without (y ∷ ys) (suc k) = y ∷ without ys k

without_length : {T : Type 0} (ys : List T) (k : ℕ) (x : T) → slice_get ys k ≡ Some x → length ys ≡ suc (length (without ys k))
without_length [] k x at = cc
without_length (y ∷ ys) zero x at = refl
without_length (y ∷ ys) (suc k) x at = ap suc (without_length ys k x at)

still_in : {T : Type 0} (ys : List T) (k j : ℕ) (x z : T) → slice_get ys k ≡ Some x → slice_get ys j ≡ Some z → (z ≡ x → ⊥) → IsIn z (without ys k)
still_in [] k j x z at there other = cc
still_in (y ∷ ys) zero zero x z at there other = absurd (other (sym (some_is there) ∙ some_is at))
still_in (y ∷ ys) zero (suc j) x z at there other = (j, there)
still_in (y ∷ ys) (suc k) zero x z at there other = (0, there)
still_in (y ∷ ys) (suc k) (suc j) x z at there other = let r = still_in ys k j x z at there other in (suc r.0, r.1)

-- distinct values that all stand in a list are no more than it has
pub few_of : {T : Type 0} (xs ys : List T) → Distinct xs → ((k : ℕ) (x : T) → slice_get xs k ≡ Some x → IsIn x ys) → length xs ≤ length ys
few_of [] ys distinct there = omega arith
few_of {T} (x ∷ xs) ys distinct there =
    let here = there 0 x refl in
    let rest = few_of xs (without ys here.0) distinct.1 (λ k z at.
    let z_in = there (suc k) z at in
    still_in ys here.0 z_in.0 x z here.1 z_in.1 (λ same. distinct.0 (k, at ∙ ap Some same))) in
    let n = without_length ys here.0 x here.1 in
    omega (arith, rest, n)

in_if : {C T : Type 0} (f : C → T) (b : Bool) (x : C) (fs ds : List C) (a : T) → (IsIn a (map f fs) → IsIn a (map f ds)) → IsIn a (map f (cond b (x ∷ fs) fs)) → IsIn a (map f (x ∷ ds))
in_if f true x fs ds a sub (zero, at) = (0, at)
in_if f true x fs ds a sub (suc k, at) = let r = sub (k, at) in (suc r.0, r.1)
in_if f false x fs ds a sub s = let r = sub s in (suc r.0, r.1)

-- what stands among those that are kept stands among all
pub in_filter : {C T : Type 0} (f : C → T) (p : C → Bool) (ds : List C) (a : T) → IsIn a (map f (filter p ds)) → IsIn a (map f ds)
in_filter f p [] a s = s
in_filter f p (x ∷ ds) a s = in_if f (p x) x (filter p ds) ds a (in_filter f p ds a) s

distinct_if : {C T : Type 0} (f : C → T) (b : Bool) (x : C) (fs : List C) → (IsIn (f x) (map f fs) → ⊥) → Distinct (map f fs) → Distinct (map f (cond b (x ∷ fs) fs))
distinct_if f true x fs new rest = (new, rest)
distinct_if f false x fs new rest = rest

pub distinct_filter : {C T : Type 0} (f : C → T) (p : C → Bool) (ds : List C) → Distinct (map f ds) → Distinct (map f (filter p ds))
distinct_filter f p [] d = tt
distinct_filter f p (x ∷ ds) d = distinct_if f (p x) x (filter p ds) (λ s. d.0 (in_filter f p ds (f x) s)) (distinct_filter f p ds d.1)

-- a value that is kept comes from one for which it holds
pub from_filter : {C : Type 0} (p : C → Bool) (ds : List C) (k : ℕ) (d : C) → slice_get (filter p ds) k ≡ Some d → (j : ℕ) × (slice_get ds j ≡ Some d) × (p d ≡ true)
from_filter p [] k d at = cc
from_filter {C} p (x ∷ ds) k d at = go (p x) refl k at (λ j there. from_filter p ds j d there)
  where
    go : (b : Bool) → p x ≡ b → (k : ℕ) → slice_get (cond b (x ∷ filter p ds) (filter p ds)) k ≡ Some d → ((j : ℕ) → slice_get (filter p ds) j ≡ Some d → (j : ℕ) × (slice_get ds j ≡ Some d) × (p d ≡ true))
        → (j : ℕ) × (slice_get (x ∷ ds) j ≡ Some d) × (p d ≡ true)
    go true is zero h later = (0, h, subst (λ y. p y ≡ true) (some_is h) is)
    go true is (suc k) h later = let r = later k h in (suc r.0, r.1, r.2)
    go false is k h later = let r = later k h in (suc r.0, r.1, r.2)
