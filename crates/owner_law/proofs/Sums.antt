use Rattle.std.proofs.Common.{◌≡◌, ◌==◌, ◌&&◌, ◌+◌, ℕ, zero, suc, Bool, true, false, cond, Some, List, [], ◌∷◌, flat_map, slice_get, sum_by, refl, sym, ap, ap₂, ◌∙◌, arith}
use Rattle.std.proofs.lemmas.Bool.{eq-eqb, eqb-true}
use Rattle.std.proofs.lemmas.List.Sums.{sum_by-cons, sum_by-append}
use Rattle.wire_core.specs.Bells.{bit}
use Rattle.owner_law.specs.Things.{Buffer, is_same}

-- a number where it is so, else 0
abbrev pub when : Bool → ℕ → ℕ
when b n = cond b n 0

pub bit_when : (b : Bool) → bit b ≡ when b 1
bit_when true = refl
bit_when false = refl

pub when_none : (b : Bool) → when b 0 ≡ 0
when_none true = refl
when_none false = refl

pub when_more : (b : Bool) (n : ℕ) → when b (suc n) ≡ when b 1 + when b n
when_more true n = omega arith
when_more false n = refl

pub both : (a b : Bool) → (a && b) ≡ true → (a ≡ true) × (b ≡ true)
both true true h = (refl, refl)
both true false h = cc
both false b h = cc

pub same_is : (a b : Buffer) → is_same a b ≡ true → a ≡ b
same_is a b h =
    let two = both (a.pool == b.pool) (a.no == b.no) h in
    ap₂ (λ (p n : ℕ). let x : Buffer = record { pool = p; no = n } in x) (eqb-true a.pool b.pool two.0) (eqb-true a.no b.no two.1)

pub same_self : (a : Buffer) → is_same a a ≡ true
same_self a = rw (eq-eqb a.pool a.pool refl, eq-eqb a.no a.no refl) refl

-- a sum over lists of lists
pub sum_flat : {X Y : Type 0} (f : Y → ℕ) (g : X → List Y) (xs : List X) → sum_by f (flat_map g xs) ≡ sum_by (λ x. sum_by f (g x)) xs
sum_flat f g [] = refl
sum_flat f g (x ∷ xs) = sum_by-append f (g x) (flat_map g xs) ∙ (ap (λ n. sum_by f (g x) + n) (sum_flat f g xs) ∙ sym (sum_by-cons (λ y. sum_by f (g y)) x xs))

-- each term is a sum
pub sum_both : {X : Type 0} (f g h : X → ℕ) → ((x : X) → g x ≡ f x + h x) → (xs : List X) → sum_by g xs ≡ sum_by f xs + sum_by h xs
sum_both f g h each [] = refl
sum_both f g h each (x ∷ xs) = omega (arith, sum_by-cons f x xs, sum_by-cons g x xs, sum_by-cons h x xs, each x, sum_both f g h each xs)

-- each term is 0
pub sum_none : {X : Type 0} (f : X → ℕ) (xs : List X) → ((i : ℕ) (x : X) → slice_get xs i ≡ Some x → f x ≡ 0) → sum_by f xs ≡ 0
sum_none f [] none = refl
sum_none f (x ∷ xs) none = omega (arith, sum_by-cons f x xs, none 0 x refl, sum_none f xs (λ i y at. none (suc i) y at))

-- each term but one is 0
pub sum_one : {X : Type 0} (f : X → ℕ) (d : ℕ) (xs : List X) (i : ℕ) (x : X) → slice_get xs i ≡ Some x → f x ≡ d → ((j : ℕ) (y : X) → slice_get xs j ≡ Some y → (j ≡ i → ⊥) → f y ≡ 0) → sum_by f xs ≡ d
sum_one f d [] i x at is none = cc
sum_one f d (y ∷ xs) zero x at is none =
    let head : f y ≡ d = let e : y ≡ x = cc in ap f e ∙ is in
    omega (arith, sum_by-cons f y xs, head, sum_none f xs (λ j z z_at. none (suc j) z z_at (λ e. omega (arith, e))))
sum_one f d (y ∷ xs) (suc i) x at is none =
    omega (arith, sum_by-cons f y xs, none 0 y refl (λ e. omega (arith, e)), sum_one f d xs i x at is (λ j z z_at off. none (suc j) z z_at (λ e. off (omega (arith, e)))))
