use Rattle.std.proofs.Common.{◌≡◌, ◌⊎◌, ◌≢◌, ◌==◌, ◌≤◌, ◌+◌, ◌++◌, ℕ, zero, suc, Bool, true, false, Some, List, [], ◌∷◌, map, slice_get, refl, sym, ap, subst, arith, inl, inr}
use Rattle.std.proofs.Math.Dec.{eqb}
use Rattle.std.proofs.lemmas.Bool.{eq-eqb}
use Rattle.std.proofs.lemmas.Bool.Decides.{eqb_tells}
use Rattle.wire_core.specs.declared.names.QueueRow.{QueueRow}
use Rattle.wire_core.specs.Bells.{bit}
use Rattle.layout_laws.specs.RegionLaws.Budgets.Ends.{ends_of}
use Rattle.layout_laws.proofs.RegionLaws.BudgetsLemmas.Places.{IsIn, Distinct, some_is}

-- so many, where it is so
abbrev pub many : Bool → ℕ → ℕ
many true n = n
many false n = 0

-- actors by their numbers, each with how many ends it has
abbrev pub Weights : Type 0
Weights = List (ℕ × ℕ)

abbrev pub weight : ℕ → Weights → ℕ
weight k [] = 0
weight k (w ∷ ws) = many (w.0 == k) w.1 + weight k ws

pub many_bits : (b : Bool) (n m : ℕ) → many b (n + m) ≡ many b n + many b m
many_bits true n m = refl
many_bits false n m = refl

pub many_one : (b : Bool) → many b 1 ≡ bit b
many_one true = refl
many_one false = refl

pub many_none : (b : Bool) → many b 0 ≡ 0
many_none true = refl
many_none false = refl

pub many_2 : (b : Bool) → many b 2 ≡ bit b + bit b
many_2 true = refl
many_2 false = refl

pub many_4 : (b : Bool) → many b 4 ≡ bit b + bit b + bit b + bit b
many_4 true = refl
many_4 false = refl

pub many_8 : (b : Bool) → many b 8 ≡ bit b + bit b + bit b + bit b + bit b + bit b + bit b + bit b
many_8 true = refl
many_8 false = refl

pub ends_both : (k : ℕ) (xs ys : List QueueRow) → ends_of k (xs ++ ys) ≡ ends_of k xs + ends_of k ys
ends_both k [] ys = omega arith
ends_both k (x ∷ xs) ys = let r = ends_both k xs ys in omega (arith, r)

pub weight_both : (k : ℕ) (xs ys : Weights) → weight k (xs ++ ys) ≡ weight k xs + weight k ys
weight_both k [] ys = omega arith
weight_both k (x ∷ xs) ys = let r = weight_both k xs ys in omega (arith, r)

abbrev pub numbers : Weights → List ℕ
numbers ws = map (λ w. w.0) ws

number_in : (ws : Weights) (i : ℕ) (w : ℕ × ℕ) → slice_get ws i ≡ Some w → IsIn w.0 (numbers ws)
number_in [] i w at = cc
number_in (x ∷ ws) zero w at = (0, ap (λ (y : ℕ × ℕ). Some y.0) (some_is at))
number_in (x ∷ ws) (suc i) w at = let r = number_in ws i w at in (suc r.0, r.1)

-- an actor that isn't among them
pub weight_none : (k : ℕ) (ws : Weights) → (IsIn k (numbers ws) → ⊥) → weight k ws ≡ 0
weight_none k [] none = refl
weight_none k (w ∷ ws) none =
    let rest = weight_none k ws (λ s. none (suc s.0, s.1)) in
    go (eqb_tells w.0 k) rest
  where
    go : ((eqb w.0 k ≡ true) × (w.0 ≡ k)) ⊎ ((eqb w.0 k ≡ false) × (w.0 ≢ k)) → weight k ws ≡ 0 → many (w.0 == k) w.1 + weight k ws ≡ 0
    go (inl e) rest = absurd (none (0, ap Some e.1))
    go (inr e) rest = rw (e.0, rest) refl

-- one that is
pub weight_at : (ws : Weights) (i : ℕ) (w : ℕ × ℕ) → Distinct (numbers ws) → slice_get ws i ≡ Some w → weight w.0 ws ≡ w.1
weight_at [] i w distinct at = cc
weight_at (x ∷ ws) zero w distinct at =
    let same : x ≡ w = some_is at in
    subst (λ (y : ℕ × ℕ). many (x.0 == y.0) x.1 + weight y.0 ws ≡ y.1) same (rw (eq-eqb x.0 x.0 refl, weight_none x.0 ws distinct.0) (omega arith))
weight_at (x ∷ ws) (suc i) w distinct at = go (eqb_tells x.0 w.0) (weight_at ws i w distinct.1 at)
  where
    go : ((eqb x.0 w.0 ≡ true) × (x.0 ≡ w.0)) ⊎ ((eqb x.0 w.0 ≡ false) × (x.0 ≢ w.0)) → weight w.0 ws ≡ w.1 → many (x.0 == w.0) x.1 + weight w.0 ws ≡ w.1
    go (inl e) rest = absurd (distinct.0 (subst (λ n. IsIn n (numbers ws)) (sym e.1) (number_in ws i w at)))
    go (inr e) rest = rw (e.0, rest) (omega arith)

-- each has at most so many
abbrev pub AreWithin : Weights → ℕ → Type 0
AreWithin [] most = Unit {0}
AreWithin (w ∷ ws) most = (w.1 ≤ most) × AreWithin ws most

pub within_both : (xs ys : Weights) (most : ℕ) → AreWithin xs most → AreWithin ys most → AreWithin (xs ++ ys) most
within_both [] ys most a b = b
within_both (x ∷ xs) ys most a b = (a.0, within_both xs ys most a.1 b)

pub weight_most : (k : ℕ) (ws : Weights) (most : ℕ) → Distinct (numbers ws) → AreWithin ws most → weight k ws ≤ most
weight_most k [] most distinct within = omega arith
weight_most k (w ∷ ws) most distinct within = go (eqb_tells w.0 k) (weight_most k ws most distinct.1 within.1)
  where
    go : ((eqb w.0 k ≡ true) × (w.0 ≡ k)) ⊎ ((eqb w.0 k ≡ false) × (w.0 ≢ k)) → weight k ws ≤ most → many (w.0 == k) w.1 + weight k ws ≤ most
    go (inl e) rest =
        let none = weight_none k ws (subst (λ n. IsIn n (numbers ws) → ⊥) e.1 distinct.0) in
        let le = within.0 in
        rw (e.0, none) (omega (arith, le))
    go (inr e) rest = rw e.0 (omega (arith, rest))

-- two lists of actors of which none is in both
pub distinct_both : {T : Type 0} (xs ys : List T) → Distinct xs → Distinct ys → ((a : T) → IsIn a xs → IsIn a ys → ⊥) → Distinct (xs ++ ys)
distinct_both [] ys a b apart = b
distinct_both {T} (x ∷ xs) ys a b apart = (
  λ s. either s.0 s.1,
  distinct_both xs ys a.1 b (λ z i j. apart z (suc i.0, i.1) j),
)
  where
    split : (zs : List T) (k : ℕ) → slice_get (zs ++ ys) k ≡ Some x → IsIn x zs ⊎ IsIn x ys
    split [] k at = inr (k, at)
    split (z ∷ zs) zero at = inl (0, at)
    split (z ∷ zs) (suc k) at = elim (split zs k at) [
      | inl r ↦ inl (suc r.0, r.1)
      | inr r ↦ inr r
    ]

    either : (k : ℕ) → slice_get (xs ++ ys) k ≡ Some x → ⊥
    either k at = elim (split xs k at) [
      | inl r ↦ a.0 r
      | inr r ↦ apart x (0, refl) r
    ]

pub in_left : {T : Type 0} (a : T) (xs ys : List T) → IsIn a xs → IsIn a (xs ++ ys)
in_left {T} a xs ys s = go xs s.0 s.1
  where
    go : (xs : List T) (k : ℕ) → slice_get xs k ≡ Some a → IsIn a (xs ++ ys)
    go [] k h = cc
    go (x ∷ zs) zero h = (0, h)
    go (x ∷ zs) (suc k) h = let r = go zs k h in (suc r.0, r.1)

pub in_right : {T : Type 0} (a : T) (xs ys : List T) → IsIn a ys → IsIn a (xs ++ ys)
in_right a [] ys s = s
in_right a (x ∷ xs) ys s = let r = in_right a xs ys s in (suc r.0, r.1)

pub numbers_both : (xs ys : Weights) → numbers (xs ++ ys) ≡ numbers xs ++ numbers ys
numbers_both [] ys = refl
numbers_both (x ∷ xs) ys = ap (λ ns. x.0 ∷ ns) (numbers_both xs ys)
