use Rattle.std.proofs.Common.{◌≡◌, ◌≢◌, ◌⊎◌, ◌≤◌, ◌+◌, ◌++◌, ℕ, zero, suc, true, false, Some, List, [], ◌∷◌, length, length-set, map, flat_map, slice_get, slice_set, refl, sym, ap, ◌∙◌, subst, arith, inl, inr}
use Rattle.std.proofs.Math.Dec.{eqb}
use Rattle.std.proofs.lemmas.List.{length-map, append-nil}
use Rattle.std.proofs.lemmas.Bool.Decides.{eqb_tells}
use Rattle.cargo_core.specs.Lists.{IsPrefix, Merge, merge_none, merge_next, PrefixMerge}
use Rattle.wire_core.proofs.Places.{slice_get_written, slice_get_beside}
use Rattle.play_core.specs.Totals.{total}
use Rattle.play_core.proofs.OneQueue.{whole_prefix}
use Rattle.play_core.proofs.Walks.{begins_few}
use Rattle.play_core.proofs.Lists.{some_is, map_get, map_from, map_set, prefix_trans, prefix_flat, there_is, there_below}

empty_map : {T U : Type 0} (f : T → U) (lists : List (List T)) → ((k : ℕ) (l : List T) → slice_get lists k ≡ Some l → l ≡ []) → (k : ℕ) (l : List U) → slice_get (map (map f) lists) k ≡ Some l → l ≡ []
empty_map f lists empty k l at = let m = map_from (map f) lists k l at in sym m.2 ∙ ap (map f) (empty k m.0 m.1)

-- what a merge's entries are mapped to is a merge
pub merge_map : {T U : Type 0} (f : T → U) (lists : List (List T)) (all : List T) → Merge lists all → Merge (map (map f) lists) (map f all)
merge_map f _ _ (merge_none lists empty) = merge_none (map (map f) lists) (empty_map f lists empty)
merge_map f _ _ (merge_next lists k x l all at rest) = merge_next (map (map f) lists) k (f x) (map f l) (map f all) (map_get (map f) lists k (x ∷ l) at) (subst (λ ls. Merge ls (map f all)) (map_set (map f) lists k l) (merge_map f (slice_set lists k l) all rest))

total_none : {T : Type 0} (lists : List (List T)) → ((k : ℕ) (l : List T) → slice_get lists k ≡ Some l → l ≡ []) → total lists ≡ 0
total_none [] empty = refl
total_none (l ∷ ls) empty = rw (empty 0 l refl, total_none ls (λ k m at. empty (suc k) m at)) refl

total_set : {T : Type 0} (lists : List (List T)) (k : ℕ) (x : T) (l : List T) → slice_get lists k ≡ Some (x ∷ l) → total lists ≡ 1 + total (slice_set lists k l)
total_set [] k x l at = cc
total_set (m ∷ ls) zero x l at = let e : length m ≡ length (x ∷ l) = ap length (some_is at) in omega (arith, e)
total_set (m ∷ ls) (suc k) x l at = let r = total_set ls k x l at in omega (arith, r)

pub merge_total : {T : Type 0} (lists : List (List T)) (all : List T) → Merge lists all → length all ≡ total lists
merge_total _ _ (merge_none lists empty) = sym (total_none lists empty)
merge_total _ _ (merge_next lists k x l all at rest) = let r = merge_total (slice_set lists k l) all rest in let s = total_set lists k x l at in omega (arith, r, s)

set_back : {T : Type 0} (xs : List T) (k : ℕ) (y x : T) → slice_get xs k ≡ Some x → slice_set (slice_set xs k y) k x ≡ xs
set_back [] k y x h = refl
set_back (a ∷ xs) zero y x h = ap (λ z. z ∷ xs) (sym (some_is h))
set_back (a ∷ xs) (suc k) y x h = ap (λ zs. a ∷ zs) (set_back xs k y x h)

set_set : {T : Type 0} (xs : List T) (k : ℕ) (y x : T) → slice_set (slice_set xs k y) k x ≡ slice_set xs k x
set_set [] k y x = refl
set_set (a ∷ xs) zero y x = refl
set_set (a ∷ xs) (suc k) y x = ap (λ zs. a ∷ zs) (set_set xs k y x)

set_same : {T : Type 0} (xs : List T) (k : ℕ) (x : T) → slice_get xs k ≡ Some x → slice_set xs k x ≡ xs
set_same [] k x h = refl
set_same (a ∷ xs) zero x h = ap (λ z. z ∷ xs) (sym (some_is h))
set_same (a ∷ xs) (suc k) x h = ap (λ zs. a ∷ zs) (set_same xs k x h)

-- the empty list is a merge of empty beginnings
empties : {T : Type 0} (lists : List (List T)) → PrefixMerge lists []
empties {T} lists = record {
  parts = map (λ l. []) lists;
  as_many = length-map lists (λ (l : List T). []);
  begins = λ k part whole a b. let m = map_from (λ (l : List T). []) lists k part a in subst (λ z. IsPrefix z whole) m.2 (whole, refl);
  merged = merge_none (map (λ l. []) lists) (λ k l a. let m = map_from (λ (l : List T). []) lists k l a in sym m.2);
}

-- one element more in front
module _ {T : Type 0} (lists : List (List T)) (k : ℕ) (x : T) (l xs : List T) (at : slice_get lists k ≡ Some (x ∷ l)) (r : PrefixMerge (slice_set lists k l) xs) where
  part_there : (p : List T) × (slice_get r.parts k ≡ Some p)
  part_there = let lt = there_below lists k (x ∷ l) at in let n : length r.parts ≡ length lists = r.as_many ∙ length-set lists k l in there_is r.parts k (omega (arith, n, lt))

  abbrev part : List T
  part = part_there.0

  part_begins : IsPrefix part l
  part_begins = r.begins k part l part_there.1 (slice_get_written lists k (x ∷ l) l at)

  begins_at : (j : ℕ) (p w : List T) → slice_get (slice_set r.parts k (x ∷ part)) j ≡ Some p → slice_get lists j ≡ Some w → ((eqb j k ≡ true) × (j ≡ k)) ⊎ ((eqb j k ≡ false) × (j ≢ k)) → IsPrefix p w
  begins_at j p w a b (inl e) =
      let p_is : x ∷ part ≡ p = some_is (sym (slice_get_written r.parts k part (x ∷ part) part_there.1) ∙ (ap (slice_get (slice_set r.parts k (x ∷ part))) (sym e.1) ∙ a)) in
      let w_is : x ∷ l ≡ w = some_is (sym at ∙ (ap (slice_get lists) (sym e.1) ∙ b)) in
      subst (λ z. IsPrefix z w) p_is (subst (IsPrefix (x ∷ part)) w_is (part_begins.0, ap (λ ys. x ∷ ys) part_begins.1))
  begins_at j p w a b (inr e) = r.begins j p w (sym (slice_get_beside r.parts k j (x ∷ part) e.1) ∙ a) (slice_get_beside lists k j l e.1 ∙ b)

  grown : PrefixMerge lists (x ∷ xs)
  grown = record {
    parts = slice_set r.parts k (x ∷ part);
    as_many = length-set r.parts k (x ∷ part) ∙ (r.as_many ∙ length-set lists k l);
    begins = λ j p w a b. begins_at j p w a b (eqb_tells j k);
    merged = merge_next (slice_set r.parts k (x ∷ part)) k x part xs (slice_get_written r.parts k part (x ∷ part) part_there.1) (subst (λ ps. Merge ps xs) (sym (set_back r.parts k (x ∷ part) part part_there.1)) r.merged);
  }

from_none : {T : Type 0} (lists : List (List T)) (xs : List T) → IsPrefix xs [] → PrefixMerge lists xs
from_none lists [] p = empties lists
from_none lists (x ∷ xs) p = let e : x ∷ (xs ++ p.0) ≡ [] = p.1 in cc

from_next : {T : Type 0} (lists : List (List T)) (k : ℕ) (y : T) (l all : List T) → slice_get lists k ≡ Some (y ∷ l) → ((ys : List T) → IsPrefix ys all → PrefixMerge (slice_set lists k l) ys) → (xs : List T) → IsPrefix xs (y ∷ all) → PrefixMerge lists xs
from_next lists k y l all at rest [] p = empties lists
from_next lists k y l all at rest (x ∷ xs) p =
    let e : x ∷ (xs ++ p.0) ≡ y ∷ all = p.1 in
    let head : x ≡ y = cc in
    let tail : xs ++ p.0 ≡ all = cc in
    grown lists k x l xs (at ∙ ap (λ z. Some (z ∷ l)) (sym head)) (rest xs (p.0, tail))

-- a beginning of a merge is a merge of beginnings
pub prefix_merge : {T : Type 0} (lists : List (List T)) (all : List T) → Merge lists all → (xs : List T) → IsPrefix xs all → PrefixMerge lists xs
prefix_merge _ _ (merge_none lists empty) xs p = from_none lists xs p
prefix_merge _ _ (merge_next lists k y l all at rest) xs p = from_next lists k y l all at (prefix_merge (slice_set lists k l) all rest) xs p

-- some elements of one list come first
merge_many : {T : Type 0} (ys : List T) (lists : List (List T)) (k : ℕ) (l all : List T) → slice_get lists k ≡ Some (ys ++ l) → Merge (slice_set lists k l) all → Merge lists (ys ++ all)
merge_many [] lists k l all at m = subst (λ ls. Merge ls all) (set_same lists k l at) m
merge_many (y ∷ ys) lists k l all at m = merge_next lists k y (ys ++ l) (ys ++ all) at (merge_many ys (slice_set lists k (ys ++ l)) k l all (slice_get_written lists k (y ∷ (ys ++ l)) (ys ++ l) at) (subst (λ ls. Merge ls all) (sym (set_set lists k (ys ++ l) l)) m))

empty_flat : {T U : Type 0} (g : T → List U) (lists : List (List T)) → ((k : ℕ) (l : List T) → slice_get lists k ≡ Some l → l ≡ []) → (k : ℕ) (l : List U) → slice_get (map (flat_map g) lists) k ≡ Some l → l ≡ []
empty_flat g lists empty k l at = let m = map_from (flat_map g) lists k l at in sym m.2 ∙ ap (flat_map g) (empty k m.0 m.1)

-- what a merge's elements give, each some elements, is a merge
pub merge_flat : {T U : Type 0} (g : T → List U) (lists : List (List T)) (all : List T) → Merge lists all → Merge (map (flat_map g) lists) (flat_map g all)
merge_flat g _ _ (merge_none lists empty) = merge_none (map (flat_map g) lists) (empty_flat g lists empty)
merge_flat g _ _ (merge_next lists k x l all at rest) = merge_many (g x) (map (flat_map g) lists) k (flat_map g l) (flat_map g all) (map_get (flat_map g) lists k (x ∷ l) at) (subst (λ ls. Merge ls (flat_map g all)) (map_set (flat_map g) lists k l) (merge_flat g (slice_set lists k l) all rest))

pub prefix_merge_flat : {T U : Type 0} (g : T → List U) (lists : List (List T)) (xs : List T) → PrefixMerge lists xs → PrefixMerge (map (flat_map g) lists) (flat_map g xs)
prefix_merge_flat g lists xs r = record {
  parts = map (flat_map g) r.parts;
  as_many = length-map r.parts (flat_map g) ∙ (r.as_many ∙ sym (length-map lists (flat_map g)));
  begins = λ k p w a b.
      let m = map_from (flat_map g) r.parts k p a in
      let n = map_from (flat_map g) lists k w b in
      subst (λ z. IsPrefix z w) m.2 (subst (IsPrefix (flat_map g m.0)) n.2 (prefix_flat g m.0 n.0 (r.begins k m.0 n.0 m.1 n.1)));
  merged = merge_flat g r.parts xs r.merged;
}

-- beginnings of beginnings
pub prefix_merge_wider : {T : Type 0} (lists wholes : List (List T)) (xs : List T) → length lists ≡ length wholes → ((k : ℕ) (l w : List T) → slice_get lists k ≡ Some l → slice_get wholes k ≡ Some w → IsPrefix l w) → PrefixMerge lists xs → PrefixMerge wholes xs
prefix_merge_wider lists wholes xs n wider r = record {
  parts = r.parts;
  as_many = r.as_many ∙ n;
  begins = λ k p w a b.
      let lt = there_below wholes k w b in
      let l = there_is lists k (omega (arith, n, lt)) in
      prefix_trans p l.0 w (r.begins k p l.0 a l.1) (wider k l.0 w l.1 b);
  merged = r.merged;
}

no_rest : {T : Type 0} (xs rest : List T) → length (xs ++ rest) ≤ length xs → xs ++ rest ≡ xs
no_rest xs [] n = append-nil xs
no_rest [] (x ∷ rest) n = absurd (omega arith)
no_rest (y ∷ xs) (x ∷ rest) n = ap (λ l. y ∷ l) (no_rest xs (x ∷ rest) (omega arith))

-- a merge of lists that have no more together than its first part is that part
pub merge_whole : {T : Type 0} (lists : List (List T)) (xs rest : List T) → Merge lists (xs ++ rest) → total lists ≤ length xs → Merge lists xs
merge_whole lists xs rest m few = let n = merge_total lists (xs ++ rest) m in subst (Merge lists) (no_rest xs rest (omega (arith, n, few))) m

abbrev Begin : {T : Type 0} → List (List T) → List (List T) → Type 0
Begin {T} parts lists = (k : ℕ) (part whole : List T) → slice_get parts k ≡ Some part → slice_get lists k ≡ Some whole → IsPrefix part whole

parts_few : {T : Type 0} (parts lists : List (List T)) → length parts ≡ length lists → Begin parts lists → total parts ≤ total lists
parts_few [] lists n begins = omega arith
parts_few (p ∷ parts) [] n begins = absurd (omega (arith, n))
parts_few (p ∷ parts) (l ∷ lists) n begins =
    let here = begins_few p l (begins 0 p l refl refl) in
    let rest = parts_few parts lists (omega (arith, n)) (λ k a b at there. begins (suc k) a b at there) in
    omega (arith, here, rest)

parts_whole : {T : Type 0} (parts lists : List (List T)) → length parts ≡ length lists → Begin parts lists → total lists ≤ total parts → parts ≡ lists
parts_whole [] [] n begins all = refl
parts_whole [] (l ∷ lists) n begins all = absurd (omega (arith, n))
parts_whole (p ∷ parts) [] n begins all = absurd (omega (arith, n))
parts_whole (p ∷ parts) (l ∷ lists) n begins all =
    let few = begins_few p l (begins 0 p l refl refl) in
    let rest_few = parts_few parts lists (omega (arith, n)) (λ k a b at there. begins (suc k) a b at there) in
    let here : p ≡ l = whole_prefix p l (begins 0 p l refl refl) (omega (arith, all, rest_few)) in
    let rest : parts ≡ lists = parts_whole parts lists (omega (arith, n)) (λ k a b at there. begins (suc k) a b at there) (omega (arith, all, few)) in
    cc

-- a merge of beginnings that has as many elements as the lists have together is a merge of the whole lists
pub prefix_merge_whole : {T : Type 0} (lists : List (List T)) (all : List T) → PrefixMerge lists all → total lists ≤ length all → Merge lists all
prefix_merge_whole lists all r many =
    let n = merge_total r.parts all r.merged in
    subst (λ ls. Merge ls all) (parts_whole r.parts lists r.as_many r.begins (omega (arith, n, many))) r.merged
