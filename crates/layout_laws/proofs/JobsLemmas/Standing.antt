-- Where values stand in lists, and the names of the domains that act.
use Rattle.std.proofs.Common.{◌≡◌, ◌⊎◌, ◌+◌, ◌<◌, ◌≤◌, ◌++◌, ℕ, zero, suc, Bool, true, false, cond, Some, List, [], ◌∷◌, length, map, filter, get_or, slice_get, refl, sym, ap, ◌∙◌, subst, arith, inl, inr, ⊎_elim}
use Rattle.std.specs.Str.{bytes_eq}
use Rattle.std.proofs.lemmas.Bool.{cases_lt}
use Rattle.std.proofs.lemmas.Option.{slice_get-get_or}
use Rattle.std.proofs.lemmas.List.Quantifiers.{position-Some}
use Rattle.std.proofs.lemmas.Slice.Eq.{bytes_eq-Decides}
use Rattle.sdf_plan.specs.declared.plan.Domain.{Domain}
use Rattle.sdf_check.specs.Names.{place_of}
use Rattle.sdf_check.proofs.ListLemmas.{get-left, get-right}
use Rattle.sdf_check.proofs.RuleLemmas.{position-None}
use Rattle.region_layout.specs.Rows.{acts}
use Rattle.layout_laws.proofs.Lists.{option_cases}
use Rattle.play_core.proofs.Lists.{some_is, map_from, there_below}

-- the value stands in the list
abbrev pub Stands : {T : Type 0} → T → List T → Type 0
Stands x xs = (k : ℕ) × (slice_get xs k ≡ Some x)

pub stands_left : {T : Type 0} (x : T) (xs ys : List T) → Stands x xs → Stands x (xs ++ ys)
stands_left x xs ys s = (s.0, get-left xs ys s.0 x s.1)

pub stands_right : {T : Type 0} (x : T) (xs ys : List T) → Stands x ys → Stands x (xs ++ ys)
stands_right x xs ys s = (length xs + s.0, get-right xs ys s.0 x s.1)

-- no value stands twice in the list
abbrev pub AreApart : {T : Type 0} → List T → Type 0
AreApart {T} xs = (i j : ℕ) (a : T) → i < j → slice_get xs i ≡ Some a → slice_get xs j ≡ Some a → ⊥

apart_rest : {T : Type 0} (x : T) (xs : List T) → AreApart (x ∷ xs) → AreApart xs
apart_rest x xs h i j a lt p q = h (suc i) (suc j) a (omega arith) p q

-- where no value stands twice, places with one value are one place
pub one_place : {T : Type 0} (xs : List T) (i j : ℕ) (a : T) → AreApart xs → slice_get xs i ≡ Some a → slice_get xs j ≡ Some a → i ≡ j
one_place xs i j a h p q =
    ⊎_elim (λ (lt : i < j). absurd (h i j a lt p q)) (λ (le : j ≤ i).
    ⊎_elim (λ (lt : j < i). absurd (h j i a lt q p)) (λ (ge : i ≤ j). omega (arith, le, ge)) (cases_lt j i)) (cases_lt i j)

-- the last of a list with one more, or one of the others
pub added_cases : {T : Type 0} (xs : List T) (x y : T) (k : ℕ) → slice_get (xs ++ x ∷ []) k ≡ Some y → (slice_get xs k ≡ Some y) ⊎ ((x ≡ y) × (k ≡ length xs))
added_cases [] x y zero h = inr (some_is h, refl)
added_cases [] x y (suc k) h = cc
added_cases (a ∷ xs) x y zero h = inl h
added_cases (a ∷ xs) x y (suc k) h = elim (added_cases xs x y k h) [
  | inl l ↦ inl l
  | inr r ↦ inr (r.0, ap suc r.1)
]

pub apart_added : {T : Type 0} (xs : List T) (x : T) → AreApart xs → (Stands x xs → ⊥) → AreApart (xs ++ x ∷ [])
apart_added xs x h new i j a lt p q = elim (added_cases xs x a j q) [
  | inl l ↦ elim (added_cases xs x a i p) [
    | inl m ↦ h i j a lt m l
    | inr m ↦ new (j, rw m.0 l)
  ]
  | inr r ↦ elim (added_cases xs x a i p) [
    | inl m ↦ new (i, rw r.0 m)
    | inr m ↦ omega (arith, lt, r.1, m.1)
  ]
]

abbrev pub name_of : Domain → List ℕ
name_of d = d.name

-- the names of those that act
abbrev pub acting_names : List Domain → List (List ℕ)
acting_names ds = map name_of (filter acts ds)

stands_later : {T : Type 0} (a x : T) (xs : List T) → Stands a xs → Stands a (x ∷ xs)
stands_later a x xs s = (suc s.0, s.1)

stands_either : {T : Type 0} (a x : T) (xs ys : List T) → (Stands a xs → Stands a ys) → Stands a (x ∷ xs) → Stands a (x ∷ ys)
stands_either {T} a x xs ys sub s = go s.0 s.1
  where
    go : (k : ℕ) → slice_get (x ∷ xs) k ≡ Some a → Stands a (x ∷ ys)
    go zero h = (0, h)
    go (suc k) h = stands_later a x ys (sub (k, h))

stands_if : (b : Bool) (d : Domain) (fs ds : List Domain) (a : List ℕ) → (Stands a (map name_of fs) → Stands a (map name_of ds)) → Stands a (map name_of (cond b (d ∷ fs) fs)) → Stands a (map name_of (d ∷ ds))
stands_if true d fs ds a sub s = stands_either a (name_of d) (map name_of fs) (map name_of ds) sub s
stands_if false d fs ds a sub s = stands_later a (name_of d) (map name_of ds) (sub s)

acting_stands : (ds : List Domain) (a : List ℕ) → Stands a (acting_names ds) → Stands a (map name_of ds)
acting_stands [] a s = s
acting_stands (d ∷ ds) a s = stands_if (acts d) d (filter acts ds) ds a (acting_stands ds a) s

apart_more : {T : Type 0} (x : T) (xs : List T) → AreApart xs → (Stands x xs → ⊥) → AreApart (x ∷ xs)
apart_more x xs h new zero zero a lt p q = omega (arith, lt)
apart_more x xs h new zero (suc j) a lt p q = new (j, q ∙ sym p)
apart_more x xs h new (suc i) zero a lt p q = omega (arith, lt)
apart_more x xs h new (suc i) (suc j) a lt p q = h i j a (omega (arith, lt)) p q

apart_if : (b : Bool) (d : Domain) (fs : List Domain) → AreApart (map name_of fs) → (Stands (name_of d) (map name_of fs) → ⊥) → AreApart (map name_of (cond b (d ∷ fs) fs))
apart_if true d fs h new = apart_more (name_of d) (map name_of fs) h new
apart_if false d fs h new = h

pub acting_apart : (ds : List Domain) → AreApart (map name_of ds) → AreApart (acting_names ds)
acting_apart [] h = h
acting_apart (d ∷ ds) h =
    apart_if (acts d) d (filter acts ds) (acting_apart ds (apart_rest (name_of d) (map name_of ds) h))
    (λ s. let r = acting_stands ds (name_of d) s in h 0 (suc r.0) (name_of d) (omega arith) refl r.1)

there_if : (b : Bool) (x : Domain) (fs : List Domain) (a : List ℕ) → Stands a (map name_of fs) → Stands a (map name_of (cond b (x ∷ fs) fs))
there_if true x fs a s = stands_later a (name_of x) (map name_of fs) s
there_if false x fs a s = s

there_now : (b : Bool) (x : Domain) (fs : List Domain) → b ≡ true → Stands (name_of x) (map name_of (cond b (x ∷ fs) fs))
there_now true x fs is = (0, refl)
there_now false x fs is = cc

-- one that acts
pub acting_there : (ds : List Domain) (k : ℕ) (d : Domain) → slice_get ds k ≡ Some d → acts d ≡ true → Stands (name_of d) (acting_names ds)
acting_there [] k d h is = cc
acting_there (x ∷ ds) zero d h is = let e : x ≡ d = some_is h in subst (λ (y : Domain). Stands (name_of y) (acting_names (x ∷ ds))) e (there_now (acts x) x (filter acts ds) (ap acts e ∙ is))
acting_there (x ∷ ds) (suc k) d h is = there_if (acts x) x (filter acts ds) (name_of d) (acting_there ds k d h is)

-- a domain that acts and has this name
abbrev pub ActsAs : List Domain → List ℕ → Type 0
ActsAs ds a = (j : ℕ) × (d : Domain) × (slice_get ds j ≡ Some d) × (acts d ≡ true) × (d.name ≡ a)

from_later : (x : Domain) (ds : List Domain) (a : List ℕ) → ActsAs ds a → ActsAs (x ∷ ds) a
from_later x ds a r = (suc r.0, r.1, r.2, r.3, r.4)

from_if : (b : Bool) (x : Domain) (fs ds : List Domain) (a : List ℕ) → acts x ≡ b → ((k : ℕ) → slice_get (map name_of fs) k ≡ Some a → ActsAs ds a)
    → (k : ℕ) → slice_get (map name_of (cond b (x ∷ fs) fs)) k ≡ Some a → ActsAs (x ∷ ds) a
from_if true x fs ds a is rest zero h = (0, x, refl, is, some_is h)
from_if true x fs ds a is rest (suc k) h = from_later x ds a (rest k h)
from_if false x fs ds a is rest k h = from_later x ds a (rest k h)

-- whose name is one of these
pub acting_from : (ds : List Domain) (k : ℕ) (a : List ℕ) → slice_get (acting_names ds) k ≡ Some a → ActsAs ds a
acting_from [] k a h = cc
acting_from (d ∷ ds) k a h = from_if (acts d) d (filter acts ds) ds a refl (λ j g. acting_from ds j a g) k h

-- the place of a name that is found
pub place_there : (name : List ℕ) (names : List (List ℕ)) (k : ℕ) → place_of name names ≡ Some k → slice_get names k ≡ Some name
place_there name names k is =
    let found : (k < length names) × (bytes_eq (get_or names k name) name ≡ true) × ((j : ℕ) → j < k → bytes_eq (get_or names j name) name ≡ false)
    = position-Some (λ other. bytes_eq other name) names k name is in
    slice_get-get_or names k name found.0 ∙ ap Some ((bytes_eq-Decides (get_or names k name) name).0 found.1)

-- a name that stands in a list is found there
pub place_found : (name : List ℕ) (names : List (List ℕ)) (k : ℕ) → slice_get names k ≡ Some name → (j : ℕ) × (place_of name names ≡ Some j)
place_found name names k h = elim (option_cases (place_of name names)) [
  | inl none ↦
      let no : bytes_eq name name ≡ false = position-None (λ other. bytes_eq other name) names k name none h in
      let yes : bytes_eq name name ≡ true = (bytes_eq-Decides name name).1 refl in
      absurd (let e : true ≡ false = sym yes ∙ no in cc)
  | inr some ↦ some
]

-- and it is its place, where no name stands twice, whatever name stands behind
pub place_is : (name last : List ℕ) (names : List (List ℕ)) (k : ℕ) → AreApart names → slice_get names k ≡ Some name → place_of name (names ++ last ∷ []) ≡ Some k
place_is name last names k apart h =
    let all : List (List ℕ) = names ++ last ∷ [] in
    let there : slice_get all k ≡ Some name = get-left names (last ∷ []) k name h in
    let found = place_found name all k there in
    elim (added_cases names last name found.0 (place_there name all found.0 found.1)) [
      | inl front ↦ found.1 ∙ ap Some (one_place names found.0 k name apart front h)
      | inr behind ↦
          let front = there_below names k name h in
          let lt : k < found.0 = omega (arith, front, behind.1) in
          let no : bytes_eq (get_or all k name) name ≡ false = (position-Some (λ other. bytes_eq other name) all found.0 name found.1).2 k lt in
          let is : get_or all k name ≡ name = some_is (sym (slice_get-get_or all k name (there_below all k name there)) ∙ there) in
          let yes : bytes_eq name name ≡ true = (bytes_eq-Decides name name).1 refl in
          absurd (let e : true ≡ false = sym yes ∙ (ap (λ n. bytes_eq n name) (sym is) ∙ no) in cc)
    ]

-- no value stands twice among options of them
pub apart_some : {T : Type 0} (xs : List T) → AreApart xs → AreApart (map Some xs)
apart_some xs h i j a lt p q =
    let m = map_from Some xs i a p in
    let n = map_from Some xs j a q in
    h i j m.0 lt m.1 (n.1 ∙ ap Some (some_is (n.2 ∙ sym m.2)))
