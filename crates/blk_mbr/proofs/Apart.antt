use Rattle.std.proofs.Common.{◌≡◌, ◌<◌, ◌≤◌, ◌&&◌, not, max, min, nat_lt, ℕ, zero, suc, Bool, true, false, Some, List, [], ◌∷◌, slice_get, refl, subst, arith}
use Rattle.std.specs.List.{list_all}
use Rattle.std.proofs.lemmas.Bool.{and_parts, and_from, not-true, not_from_false, ltb-true, lt-ltb}
use Rattle.std.proofs.Math.Nat.{le-max_left, le-max_right, max-le, min-le_left, min-le_right, le-min}
use Rattle.blk_mbr.specs.declared.entry.Entry.{Entry}
use Rattle.blk_mbr.specs.Sectors.{is_used}
use Rattle.blk_mbr.specs.Partitions.{Holds, are_apart, do_clash, end_of}

-- used entries that hold one sector clash
pub clash_from : (e f : Entry) (s : ℕ) → is_used e ≡ true → is_used f ≡ true → Holds e s → Holds f s → do_clash e f ≡ true
clash_from e f s u v h g =
    let low : max e.first f.first ≤ s = max-le h.0 g.0 in
    let high : suc s ≤ min (end_of e) (end_of f) = le-min (omega (arith, h.1)) (omega (arith, g.1)) in
    and_from (is_used e) (is_used f && nat_lt (max e.first f.first) (min (end_of e) (end_of f))) u
    (and_from (is_used f) (nat_lt (max e.first f.first) (min (end_of e) (end_of f))) v (lt-ltb (max e.first f.first) (min (end_of e) (end_of f)) (omega (arith, low, high))))

-- and those that clash do
pub clash_to : (e f : Entry) → do_clash e f ≡ true → (s : ℕ) × (is_used e ≡ true) × (is_used f ≡ true) × Holds e s × Holds f s
clash_to e f h =
    let one = and_parts (is_used e) (is_used f && nat_lt (max e.first f.first) (min (end_of e) (end_of f))) h in
    let two = and_parts (is_used f) (nat_lt (max e.first f.first) (min (end_of e) (end_of f))) one.1 in
    let below : max e.first f.first < min (end_of e) (end_of f) = ltb-true (max e.first f.first) (min (end_of e) (end_of f)) two.1 in
    let left : min (end_of e) (end_of f) ≤ end_of e = min-le_left (end_of e) (end_of f) in
    let right : min (end_of e) (end_of f) ≤ end_of f = min-le_right (end_of e) (end_of f) in
    (max e.first f.first, one.0, two.0, (le-max_left e.first f.first, omega (arith, below, left)), (le-max_right e.first f.first, omega (arith, below, right)))

-- no entry of a list clashes with this one
all_of : (p : Entry → Bool) (es : List Entry) (k : ℕ) (f : Entry) → list_all (λ x. not (p x)) es ≡ true → slice_get es k ≡ Some f → p f ≡ false
all_of p [] k f h at = cc
all_of p (e ∷ es) zero f h at = let a = and_parts (not (p e)) (list_all (λ x. not (p x)) es) h in let same : e ≡ f = some_eq at in not-true (p f) (subst (λ (x : Entry). not (p x) ≡ true) same a.0)
  where
    some_eq : {a b : Entry} → Some a ≡ Some b → a ≡ b
    some_eq t = cc
all_of p (e ∷ es) (suc k) f h at = all_of p es k f (and_parts (not (p e)) (list_all (λ x. not (p x)) es) h).1 at

from_all : (p : Entry → Bool) (es : List Entry) → ((k : ℕ) (f : Entry) → slice_get es k ≡ Some f → p f ≡ false) → list_all (λ x. not (p x)) es ≡ true
from_all p [] h = refl
from_all p (e ∷ es) h = and_from (not (p e)) (list_all (λ x. not (p x)) es) (not_from_false (p e) (h zero e refl)) (from_all p es (λ k f at. h (suc k) f at))

-- entries that are apart don't clash, and those of which no two clash are
pub apart_to : (es : List Entry) (j k : ℕ) (e f : Entry) → are_apart es ≡ true → slice_get es j ≡ Some e → slice_get es k ≡ Some f → j < k → do_clash e f ≡ false
apart_to [] j k e f h at to lt = cc
apart_to (x ∷ es) j zero e f h at to lt = absurd (omega (arith, lt))
apart_to (x ∷ es) zero (suc k) e f h at to lt =
    let a = and_parts (list_all (λ y. not (do_clash x y)) es) (are_apart es) h in
    let none : do_clash x f ≡ false = all_of (do_clash x) es k f a.0 to in
    subst (λ (y : Entry). do_clash y f ≡ false) (some_eq at) none
  where
    some_eq : {a b : Entry} → Some a ≡ Some b → a ≡ b
    some_eq t = cc
apart_to (x ∷ es) (suc j) (suc k) e f h at to lt = apart_to es j k e f (and_parts (list_all (λ y. not (do_clash x y)) es) (are_apart es) h).1 at to (omega (arith, lt))

pub apart_from : (es : List Entry) → ((j k : ℕ) (e f : Entry) → slice_get es j ≡ Some e → slice_get es k ≡ Some f → j < k → do_clash e f ≡ false) → are_apart es ≡ true
apart_from [] h = refl
apart_from (x ∷ es) h = and_from (list_all (λ y. not (do_clash x y)) es) (are_apart es) (from_all (do_clash x) es (λ k f at. h zero (suc k) x f refl at (omega arith))) (apart_from es (λ j k e f at to lt. h (suc j) (suc k) e f at to (omega (arith, lt))))
