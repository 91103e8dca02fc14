-- A merge goes on where one of its lists does, and how many entries of a merge are at an address.
use Rattle.std.proofs.Common.{◌≡◌, ◌≢◌, ◌⊎◌, ◌+◌, ◌==◌, ◌++◌, ℕ, zero, suc, true, false, Some, List, [], ◌∷◌, slice_get, slice_set, refl, sym, ap, ◌∙◌, inl, inr, arith}
use Rattle.std.proofs.Math.Dec.{eqb}
use Rattle.std.proofs.lemmas.Bool.Decides.{eqb_tells}
use Rattle.cargo_core.specs.Lists.{Merge, merge_none, merge_next}
use Rattle.wire_core.specs.Bells.{bit}
use Rattle.wire_core.specs.Deeds.{Cargo}
use Rattle.wire_core.proofs.Places.{slice_get_written, slice_get_beside}
use Rattle.buffer_kit.specs.Entries.{addr_of}
use Rattle.buffer_kit.proofs.ManyClients.{some_eq}
use Rattle.net_virt_tx.specs.Clients.{at_address}

-- one list is longer by an entry, the others stay
pub record Grows {T : Type 0} (lists lists' : List (List T)) (k : ℕ) (x : T) : Type 0 where
  pub l : List T
  pub was : slice_get lists k ≡ Some l
  pub is : slice_get lists' k ≡ Some (l ++ x ∷ [])
  pub others : (j : ℕ) → (j ≡ k → ⊥) → slice_get lists' j ≡ slice_get lists j

-- where every list was empty, all but the one that grew are
module _ {T : Type 0} (lists lists' : List (List T)) (k : ℕ) (x : T) (g : Grows lists lists' k x) (empty : (j : ℕ) (l : List T) → slice_get lists j ≡ Some l → l ≡ []) where
  now_one : slice_get lists' k ≡ Some (x ∷ [])
  now_one = g.is ∙ ap (λ l. Some (l ++ x ∷ [])) (empty k g.l g.was)

  still_empty : (j : ℕ) (l : List T) → slice_get (slice_set lists' k []) j ≡ Some l → ((eqb j k ≡ true) × (j ≡ k)) ⊎ ((eqb j k ≡ false) × (j ≢ k)) → l ≡ []
  still_empty j l at (inl same) = some_eq (sym at ∙ (ap (slice_get (slice_set lists' k [])) same.1 ∙ slice_get_written lists' k (x ∷ []) [] now_one))
  still_empty j l at (inr other) = empty j l (sym (slice_get_beside lists' k j [] other.1 ∙ g.others j other.1) ∙ at)

  pub merge_one : Merge lists' (x ∷ [])
  merge_one = merge_next lists' k x [] [] now_one (merge_none (slice_set lists' k []) (λ j l at. still_empty j l at (eqb_tells j k)))

-- an entry was taken off at one place, and the lists still grow
module _ {T : Type 0} (lists lists' : List (List T)) (k j : ℕ) (x y : T) (m : List T) (g : Grows lists lists' k x) (at : slice_get lists j ≡ Some (y ∷ m)) where
  pub record Less : Type 0 where
    pub m' : List T
    pub at' : slice_get lists' j ≡ Some (y ∷ m')
    pub grows : Grows (slice_set lists j m) (slice_set lists' j m') k x

  less : ((eqb j k ≡ true) × (j ≡ k)) ⊎ ((eqb j k ≡ false) × (j ≢ k)) → Less
  less (inl same) =
      let at_k : slice_get lists k ≡ Some (y ∷ m) = ap (slice_get lists) (sym same.1) ∙ at in
      let l_is : g.l ≡ y ∷ m = some_eq (sym g.was ∙ at_k) in
      let now : slice_get lists' j ≡ Some (y ∷ (m ++ x ∷ [])) = ap (slice_get lists') same.1 ∙ (g.is ∙ ap (λ l. Some (l ++ x ∷ [])) l_is) in
      record {
        m' = m ++ x ∷ [];
        at' = now;
        grows = record {
          l = m;
          was = ap (slice_get (slice_set lists j m)) (sym same.1) ∙ slice_get_written lists j (y ∷ m) m at;
          is = ap (slice_get (slice_set lists' j (m ++ x ∷ []))) (sym same.1) ∙ slice_get_written lists' j (y ∷ (m ++ x ∷ [])) (m ++ x ∷ []) now;
          others = λ i ne. slice_get_beside lists' j i (m ++ x ∷ []) (λ e. ne (e ∙ same.1)) ∙ (g.others i ne ∙ sym (slice_get_beside lists j i m (λ e. ne (e ∙ same.1))));
        };
      }
  less (inr other) =
      let now : slice_get lists' j ≡ Some (y ∷ m) = g.others j other.1 ∙ at in
      record {
        m' = m;
        at' = now;
        grows = record {
          l = g.l;
          was = slice_get_beside lists j k m (λ e. other.1 (sym e)) ∙ g.was;
          is = slice_get_beside lists' j k m (λ e. other.1 (sym e)) ∙ g.is;
          others = λ i ne. beside i ne (eqb_tells i j) now;
        };
      }
    where
      beside : (i : ℕ) → (i ≡ k → ⊥) → ((eqb i j ≡ true) × (i ≡ j)) ⊎ ((eqb i j ≡ false) × (i ≢ j)) → slice_get lists' j ≡ Some (y ∷ m) → slice_get (slice_set lists' j m) i ≡ slice_get (slice_set lists j m) i
      beside i ne (inl here) now = ap (slice_get (slice_set lists' j m)) here.1 ∙ (slice_get_written lists' j (y ∷ m) m now ∙ sym (ap (slice_get (slice_set lists j m)) here.1 ∙ slice_get_written lists j (y ∷ m) m at))
      beside i ne (inr there) now = slice_get_beside lists' j i m there.1 ∙ (g.others i ne ∙ sym (slice_get_beside lists j i m there.1))

pub merge_more : {T : Type 0} (lists : List (List T)) (all : List T) → Merge lists all → (lists' : List (List T)) (k : ℕ) (x : T) → Grows lists lists' k x → Merge lists' (all ++ x ∷ [])
merge_more _ _ (merge_none lists empty) lists' k x g = merge_one lists lists' k x g empty
merge_more _ _ (merge_next lists j y m all at rest) lists' k x g =
    let s = less lists lists' k j x y m g at (eqb_tells j k) in
    merge_next lists' j y s.m' (all ++ x ∷ []) s.at' (merge_more (slice_set lists j m) all rest (slice_set lists' j s.m') k x s.grows)

-- the first of two lists goes on, or the second
pub merge_first : {T : Type 0} (xs ys all : List T) (x : T) → Merge (xs ∷ ys ∷ []) all → Merge ((xs ++ x ∷ []) ∷ ys ∷ []) (all ++ x ∷ [])
merge_first xs ys all x h = merge_more (xs ∷ ys ∷ []) all h ((xs ++ x ∷ []) ∷ ys ∷ []) 0 x (record { l = xs; was = refl; is = refl; others = λ j ne. others j ne })
  where
    others : (j : ℕ) → (j ≡ 0 → ⊥) → slice_get ((xs ++ x ∷ []) ∷ ys ∷ []) j ≡ slice_get (xs ∷ ys ∷ []) j
    others zero ne = absurd (ne refl)
    others (suc j) ne = refl

pub merge_second : {T : Type 0} (xs ys all : List T) (y : T) → Merge (xs ∷ ys ∷ []) all → Merge (xs ∷ (ys ++ y ∷ []) ∷ []) (all ++ y ∷ [])
merge_second xs ys all y h = merge_more (xs ∷ ys ∷ []) all h (xs ∷ (ys ++ y ∷ []) ∷ []) 1 y (record { l = ys; was = refl; is = refl; others = λ j ne. others j ne })
  where
    others : (j : ℕ) → (j ≡ 1 → ⊥) → slice_get (xs ∷ (ys ++ y ∷ []) ∷ []) j ≡ slice_get (xs ∷ ys ∷ []) j
    others zero ne = refl
    others (suc zero) ne = absurd (ne refl)
    others (suc (suc j)) ne = refl

-- a merge of empty lists
pub merge_nothing : {T : Type 0} → Merge {T = T} ([] ∷ [] ∷ []) []
merge_nothing {T} = merge_none ([] ∷ [] ∷ []) (λ k l at. empty k l at)
  where
    empty : (k : ℕ) (l : List T) → slice_get ([] ∷ [] ∷ []) k ≡ Some l → l ≡ []
    empty zero l at = sym (some_eq at)
    empty (suc zero) l at = sym (some_eq at)
    empty (suc (suc k)) l at = cc

abbrev at_all : ℕ → List (List Cargo) → ℕ
at_all a [] = 0
at_all a (l ∷ ls) = at_address a l + at_all a ls

none_at : (a : ℕ) (ls : List (List Cargo)) → ((k : ℕ) (l : List Cargo) → slice_get ls k ≡ Some l → l ≡ []) → at_all a ls ≡ 0
none_at a [] h = refl
none_at a (l ∷ ls) h =
    let here = ap (at_address a) (h zero l refl) in
    let rest = none_at a ls (λ k m at. h (suc k) m at) in
    omega (arith, here, rest)

one_less : (a : ℕ) (ls : List (List Cargo)) (k : ℕ) (x : Cargo) (l : List Cargo) → slice_get ls k ≡ Some (x ∷ l) → at_all a ls ≡ bit (addr_of x.0 == a) + at_all a (slice_set ls k l)
one_less a [] k x l at = cc
one_less a (m ∷ ls) zero x l at = let e = ap (at_address a) (some_eq at) in omega (arith, e)
one_less a (m ∷ ls) (suc k) x l at = let e = one_less a ls k x l at in omega (arith, e)

all_at : (a : ℕ) (ls : List (List Cargo)) (all : List Cargo) → Merge ls all → at_address a all ≡ at_all a ls
all_at a _ _ (merge_none ls empty) = sym (none_at a ls empty)
all_at a _ _ (merge_next ls k x l all at rest) =
    let e = all_at a (slice_set ls k l) all rest in
    let f = one_less a ls k x l at in
    omega (arith, e, f)

pub merge_at : (a : ℕ) (xs ys all : List Cargo) → Merge (xs ∷ ys ∷ []) all → at_address a all ≡ at_address a xs + at_address a ys
merge_at a xs ys all h = let e = all_at a (xs ∷ ys ∷ []) all h in omega (arith, e)
