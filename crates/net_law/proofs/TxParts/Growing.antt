-- How a merge of beginnings goes on, and how long it can be.
use Rattle.std.proofs.Common.{◌≡◌, ◌⊎◌, ◌++◌, ◌<◌, ◌≤◌, ℕ, zero, suc, Some, List, [], ◌∷◌, length, map, slice_get, slice_set, refl, sym, ap, ◌∙◌, subst, append_assoc, arith, inl, inr}
use Rattle.std.proofs.lemmas.Bool.{cases_eq}
use Rattle.std.proofs.lemmas.List.{append-nil, length-map, length-set}
use Rattle.cargo_core.specs.Lists.{IsPrefix, Merge, merge_none, merge_next, PrefixMerge}
use Rattle.wire_core.proofs.Places.{slice_get_written, slice_get_beside}
use Rattle.play_core.specs.Totals.{total}
use Rattle.play_core.proofs.Lists.{map_from, some_is}
use Rattle.play_core.proofs.Merges.{merge_map, merge_total}
use Rattle.play_core.proofs.Walks.{begins_few}
use Rattle.net_virt_tx.proofs.Merging.{merge_more}
use Rattle.net_law.proofs.Beginnings.{begins_map}

-- beginnings are no longer in all
totals_few : {T : Type 0} (parts wholes : List (List T)) → length parts ≡ length wholes → ((k : ℕ) (p w : List T) → slice_get parts k ≡ Some p → slice_get wholes k ≡ Some w → IsPrefix p w) → total parts ≤ total wholes
totals_few [] [] same h = omega arith
totals_few [] (w ∷ ws) same h = absurd (omega (arith, same))
totals_few (p ∷ ps) [] same h = absurd (omega (arith, same))
totals_few (p ∷ ps) (w ∷ ws) same h =
    let one = begins_few p w (h zero p w refl refl) in
    let rest = totals_few ps ws (omega (arith, same)) (λ k q v at at'. h (suc k) q v at at') in
    omega (arith, one, rest)

pub merge_few : {T : Type 0} (lists : List (List T)) (xs : List T) → PrefixMerge lists xs → length xs ≤ total lists
merge_few lists xs h =
    let a = merge_total h.parts xs h.merged in
    let b = totals_few h.parts lists h.as_many h.begins in
    omega (arith, a, b)

-- a beginning that isn't all of its list
pub record Unfinished {T : Type 0} (parts wholes : List (List T)) : Type 0 where
  pub place : ℕ
  pub part : List T
  pub next : T
  pub rest : List T
  pub there : slice_get parts place ≡ Some part
  pub whole : slice_get wholes place ≡ Some (part ++ next ∷ rest)

unfinished : {T : Type 0} (parts wholes : List (List T)) → length parts ≡ length wholes → ((k : ℕ) (p w : List T) → slice_get parts k ≡ Some p → slice_get wholes k ≡ Some w → IsPrefix p w) → total parts < total wholes → Unfinished parts wholes
unfinished [] [] same h less = absurd (omega (arith, less))
unfinished [] (w ∷ ws) same h less = absurd (omega (arith, same))
unfinished (p ∷ ps) [] same h less = absurd (omega (arith, same))
unfinished {T} (p ∷ ps) (w ∷ ws) same h less = by_rest (h zero p w refl refl) (λ m. unfinished ps ws (omega (arith, same)) (λ k q v at at'. h (suc k) q v at at') m)
  where
    by_rest : IsPrefix p w → (total ps < total ws → Unfinished ps ws) → Unfinished (p ∷ ps) (w ∷ ws)
    by_rest ([], e) later =
        let long : length p ≡ length w = ap length (sym (append-nil p) ∙ e) in
        let u = later (omega (arith, less, long)) in
        record { place = suc u.place; part = u.part; next = u.next; rest = u.rest; there = u.there; whole = u.whole }
    by_rest (x ∷ xs, e) later = record { place = zero; part = p; next = x; rest = xs; there = refl; whole = ap (λ l. Some l) (sym e) }

-- a merge of beginnings of lists that are longer in all goes on
pub merge_grows : {T : Type 0} (lists : List (List T)) (xs : List T) → PrefixMerge lists xs → length xs < total lists → (x : T) × PrefixMerge lists (xs ++ x ∷ [])
merge_grows {T} lists xs h less =
    let a = merge_total h.parts xs h.merged in
    let u = unfinished h.parts lists h.as_many h.begins (omega (arith, a, less)) in (
      u.next,
      record {
        parts = slice_set h.parts u.place (u.part ++ u.next ∷ []);
        as_many = length-set h.parts u.place (u.part ++ u.next ∷ []) ∙ h.as_many;
        begins = λ k p w at at'. begins u k p w at at' (cases_eq k u.place);
        merged = merge_more h.parts xs h.merged (slice_set h.parts u.place (u.part ++ u.next ∷ [])) u.place u.next (record {
          l = u.part;
          was = u.there;
          is = slice_get_written h.parts u.place u.part (u.part ++ u.next ∷ []) u.there;
          others = λ j ne. slice_get_beside h.parts u.place j (u.part ++ u.next ∷ []) ne;
        });
      },
    )
  where
    begins : (u : Unfinished h.parts lists) (k : ℕ) (p w : List T) → slice_get (slice_set h.parts u.place (u.part ++ u.next ∷ [])) k ≡ Some p → slice_get lists k ≡ Some w → (k ≡ u.place) ⊎ (k ≡ u.place → ⊥) → IsPrefix p w
    begins u k p w at at' (inl e) =
        let p_is : u.part ++ u.next ∷ [] ≡ p = some_is (sym (slice_get_written h.parts u.place u.part (u.part ++ u.next ∷ []) u.there) ∙ (ap (slice_get (slice_set h.parts u.place (u.part ++ u.next ∷ []))) (sym e) ∙ at)) in
        let w_is : u.part ++ u.next ∷ u.rest ≡ w = some_is (sym u.whole ∙ (ap (slice_get lists) (sym e) ∙ at')) in
        subst (λ q. IsPrefix q w) p_is (u.rest, append_assoc u.part (u.next ∷ []) u.rest ∙ w_is)
    begins u k p w at at' (inr ne) = h.begins k p w (sym (slice_get_beside h.parts u.place k (u.part ++ u.next ∷ []) ne) ∙ at) at'

-- what the elements of a merge of beginnings are mapped to
pub maps_merge : {T U : Type 0} (f : T → U) (lists : List (List T)) (all : List T) → PrefixMerge lists all → PrefixMerge (map (map f) lists) (map f all)
maps_merge f lists all h =
    let a = length-map h.parts (map f) in
    let b = length-map lists (map f) in
    let c = h.as_many in
    record {
      parts = map (map f) h.parts;
      as_many = omega (arith, a, b, c);
      begins = λ k part whole at at'.
          let m = map_from (map f) h.parts k part at in
          let n = map_from (map f) lists k whole at' in
          subst (λ x. IsPrefix x whole) m.2 (subst (λ y. IsPrefix (map f m.0) y) n.2 (begins_map f m.0 n.0 (h.begins k m.0 n.0 m.1 n.1)));
      merged = merge_map f h.parts all h.merged;
    }

-- a merge with an empty list is the other list
alone : {T : Type 0} (lists : List (List T)) (all : List T) → Merge lists all → (ys : List T) → lists ≡ [] ∷ ys ∷ [] → all ≡ ys
alone _ _ (merge_none lists empty) ys is = sym (empty 1 ys (ap (λ ls. slice_get ls 1) is))
alone {T} _ _ (merge_next lists k x l all at rest) ys is = by_place k (ap (λ ls. slice_get ls k) (sym is) ∙ at) (λ zs e. alone (slice_set lists k l) all rest zs (ap (λ ls. slice_set ls k l) is ∙ e))
  where
    by_place : (k : ℕ) → slice_get ([] ∷ ys ∷ []) k ≡ Some (x ∷ l) → ((zs : List T) → slice_set ([] ∷ ys ∷ []) k l ≡ [] ∷ zs ∷ [] → all ≡ zs) → x ∷ all ≡ ys
    by_place zero e later = let no : [] ≡ x ∷ l = some_is e in absurd cc
    by_place (suc zero) e later = ap (λ zs. x ∷ zs) (later l refl) ∙ sym (some_is e)
    by_place (suc (suc j)) e later = absurd cc

-- so where one list is empty, a merge of beginnings is a beginning of the other
pub merge_alone : {T : Type 0} (xs ys all : List T) → xs ≡ [] → PrefixMerge (xs ∷ ys ∷ []) all → IsPrefix all ys
merge_alone {T} xs ys all none h = by_parts h.parts refl h.as_many
  where
    empty_part : (p : List T) → IsPrefix p [] → p ≡ []
    empty_part [] b = refl
    empty_part (x ∷ p) b = let no : x ∷ (p ++ b.0) ≡ [] = b.1 in absurd cc

    by_parts : (parts : List (List T)) → h.parts ≡ parts → length h.parts ≡ 2 → IsPrefix all ys
    by_parts [] is two = let e = ap length is in absurd (omega (arith, e, two))
    by_parts (p ∷ []) is two = let e = ap length is in absurd (omega (arith, e, two))
    by_parts (p ∷ q ∷ r ∷ rs) is two = let e = ap length is in absurd (omega (arith, e, two))
    by_parts (p ∷ q ∷ []) is two =
        let first = subst (IsPrefix p) none (h.begins 0 p xs (ap (λ l. slice_get l 0) is) refl) in
        let gone = empty_part p first in
        let whole : all ≡ q = alone h.parts all h.merged q (is ∙ ap (λ l. l ∷ q ∷ []) gone) in
        subst (λ l. IsPrefix l ys) (sym whole) (h.begins 1 q ys (ap (λ l. slice_get l 1) is) refl)
