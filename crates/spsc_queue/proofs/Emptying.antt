-- Taking out what is left, from the head on.
use Rattle.std.proofs.Common.{◌≡◌, ◌≢◌, ℕ, zero, suc, ◌+◌, ◌-◌, ◌*◌, ◌/◌, ◌%◌, ◌<◌, ◌≤◌, Bool, true, false, List, [], ◌∷◌, ◌++◌, length, get_or, set, refl, sym, ap, ◌∙◌, arith, Some, None, get_or-set_same, get_or-set_other, mod-lt, add-one, length-append, length-set}
use Rattle.std.proofs.Math.Nat.{add-mod-mod, add-mul-mod_self_left, div-add-mod, add-mod_right, mod-eq_of_lt}
use mathlib.Core.Option.{some, some-injective, some-ne-none}
use mathlib.Core.Logic.{dite}
use native.Mathlib.Decide.{ℕ_discrete}
use lib.ListN.{get_elem?}
use Rattle.std.specs.Slots.Ownership.{Filled}
use Rattle.wire_core.specs.Deeds.{Cargo}
use Rattle.spsc_queue.specs.Rule.{Slot}
use Rattle.spsc_queue.specs.Left.{listed, entries_from}
use Rattle.spsc_queue.proofs.Places.{apart}

-- k places were emptied, from the index h on
pub record Taking (n h k : ℕ) (items old : List Slot) (filled : List Bool) (left : List Cargo) : Type 0 where
  pub same : items ≡ old
  pub size : length filled ≡ n
  pub emptied : (j : ℕ) → j < k → get_or filled ((h + j) % n) false ≡ false
  pub full : (j : ℕ) → k ≤ j → j < n → get_or filled ((h + j) % n) false ≡ true
  pub are : left ≡ entries_from old n h k
  pub few : length left ≤ k

listed_short : (s : Slot) → length (listed s) ≤ 1
listed_short None = omega arith
listed_short (Some x) = omega arith

pub elem_or : {A : Type 0} (xs : List A) (i : ℕ) (y d : A) → get_elem? xs i ≡ some y → get_or xs i d ≡ y
elem_or [] i y d e = absurd (some-ne-none y (sym e))
elem_or (x ∷ xs) zero y d e = some-injective x y e
elem_or (x ∷ xs) (suc i) y d e = elem_or xs i y d e

pub begins : (n h : ℕ) (items : List Slot) (filled : List Bool) (left : List Cargo) → 0 < n → length filled ≡ n → Filled filled 0 n → left ≡ [] → Taking n h 0 items items filled left
unfolding entries_from
begins n h items filled left some_place size full none_yet = record {
  same = refl;
  size = size;
  emptied = λ j lt. absurd (omega arith);
  full = λ j le lt. full ((h + j) % n) (omega arith) (mod-lt (h + j) some_place);
  are = none_yet;
  few = omega (arith, ap length none_yet);
}

pub goes_on : (n h k place : ℕ) (items items' old : List Slot) (filled filled' : List Bool) (left left' : List Cargo) (y : Slot) → k < n → place ≡ (h + k) % n → get_elem? items place ≡ some y → items' ≡ items → filled' ≡ set filled place false → left' ≡ left ++ listed y
    → Taking n h k items old filled left → Taking n h (k + 1) items' old filled' left'
unfolding entries_from
goes_on n h k place items items' old filled filled' left left' y lt at found same now more t = let inside : (h + k) % n < n = mod-lt (h + k) (omega arith) in let long : length filled ≡ n = t.size in record {
  same = same ∙ t.same;
  size = ap length now ∙ (length-set filled place false ∙ t.size);
  emptied = λ j below. dite (ℕ_discrete j k)
      (λ is. ap (λ (z : List Bool × ℕ). get_or z.0 z.1 false) (λ i. (now i, (ap (λ (z : ℕ). (h + z) % n) is ∙ sym at) i)) ∙ get_or-set_same filled place false false (omega arith))
      (λ ne. let ne' : (h + j) % n ≢ place = (λ e. apart n h j k (omega arith) lt ne (e ∙ at)) in ap (λ (z : List Bool). get_or z ((h + j) % n) false) now ∙ (get_or-set_other filled place ((h + j) % n) false false ne' ∙ t.emptied j (omega arith)));
  full = λ j le below. let ne : j ≢ k = (λ e. omega arith) in let ne' : (h + j) % n ≢ place = (λ e. apart n h j k below lt ne (e ∙ at)) in ap (λ (z : List Bool). get_or z ((h + j) % n) false) now ∙ (get_or-set_other filled place ((h + j) % n) false false ne' ∙ t.full j (omega arith) below);
  are = more ∙ (ap (λ (z : List Cargo × Slot). z.0 ++ listed z.1) (λ i. (t.are i, sym (elem_or old ((h + k) % n) y None (ap (λ (z : List Slot × ℕ). get_elem? z.0 z.1) (λ i. (sym t.same i, sym at i)) ∙ found)) i)) ∙ sym (ap (λ (z : ℕ). entries_from old n h z) (add-one k)));
  few = let s = listed_short y in omega (arith, ap length more, length-append left (listed y), t.few);
}

-- every place was emptied
pub all_empty : (n h i : ℕ) (items old : List Slot) (filled : List Bool) (left : List Cargo) → Taking n h n items old filled left → i < n → get_or filled i false ≡ false
all_empty n h i items old filled left t lt = let j : ℕ = (i + (n - h % n)) % n in let small : h % n < n = mod-lt h (omega arith) in let d = div-add-mod h n in
    let is : (h + j) % n ≡ i = add-mod-mod h (i + (n - h % n)) n ∙ (ap (λ (z : ℕ). z % n) (let z : h + (i + (n - h % n)) ≡ i + n + n * (h / n) = omega arith in z) ∙ (add-mul-mod_self_left (i + n) n (h / n) ∙ (add-mod_right i n ∙ mod-eq_of_lt lt))) in
    ap (λ (z : ℕ). get_or filled z false) (sym is) ∙ t.emptied j (mod-lt (i + (n - h % n)) (omega arith))
