-- Names that are noted one after another: whether one was there before its key.
use Rattle.std.proofs.Common.{◌≡◌, ◌↔◌, ℕ, zero, suc, ◌+◌, ◌-◌, ◌<◌, ◌≤◌, ◌⊎◌, inl, inr, ⊎_elim, List, [], ◌∷◌, ◌++◌, length, map, take, flat_map, get_or, Bool, true, false, IsTrue, Some, None, refl, sym, ◌∙◌, ap, subst, arith, append_assoc}
use Rattle.std.specs.List.{slice_get}
use Rattle.std.specs.Option.{IsSomeAnd}
use Rattle.std.proofs.lemmas.Bool.{cases_lt}
use Rattle.std.proofs.lemmas.List.{append-nil, take_all}
use Rattle.std.proofs.lemmas.Option.{slice_get_within, slice_get-get_or, get_or_from_slice_get}
use denote.Ref.{Bor}
use Rattle.sdf_plan.specs.declared.place.Place.{Place}
use Rattle.sdf_plan.specs.declared.plan.Plan.{Plan}
use Rattle.sdf_plan.specs.ClassTable.Order.{number_of}
use Rattle.sdf_plan.proofs.ClassTable.Order.{of-element}
use Rattle.sdf_plan.specs.ClassTable.Rows.{Name}
use Rattle.sdf_plan.specs.ClassTable.Table.{Element, OfElement, table_of}
use Rattle.sdf_check.specs.ClassRules.{SomeOf, RepeatsName}
use Rattle.sdf_check.specs.Keys.{AreFlags, Tells}
use Rattle.sdf_check.specs.Lookups.{names_shown}
use Rattle.sdf_check.proofs.NameLemmas.{map-take-one}
use Rattle.sdf_check.proofs.ListLemmas.{get-left, get-either}
use Rattle.sdf_check.proofs.LoopLemmas.{held}
use Rattle.sdf_check.proofs.SoughtLemmas.{here-some}
use Rattle.sdf_check.proofs.SweepLemmas.{some-inj}

take-left : {X : Type 0} (xs ys : List X) (k : ℕ) → k < length xs → take k (xs ++ ys) ≡ take k xs
take-left [] ys k less = absurd (omega (arith, less))
take-left (x ∷ xs) ys zero less = refl
take-left (x ∷ xs) ys (suc k) less = ap (λ l. x ∷ l) (take-left xs ys k (omega (arith, less)))

take-all : {X : Type 0} (xs ys : List X) → take (length xs) (xs ++ ys) ≡ xs
take-all [] ys = refl
take-all (x ∷ xs) ys = ap (λ l. x ∷ l) (take-all xs ys)

at-end : {X : Type 0} (xs : List X) (x : X) → slice_get (xs ++ x ∷ []) (length xs) ≡ Some x
at-end [] x = refl
at-end (y ∷ xs) x = at-end xs x

abbrev Among : List ℕ → List (List ℕ) → Type 0
Among name names = SomeOf (λ other. other ≡ name) names

-- one more name
module _ (before xs : List (List ℕ)) (x : List ℕ) where
  first : RepeatsName before xs → RepeatsName before (xs ++ x ∷ [])
  first s =
      let h = held (slice_get xs s.0) (λ name. Among name (before ++ take s.0 xs)) s.1 in
      let less = slice_get_within xs s.0 h.0 h.1 in (
        s.0,
        here-some (slice_get (xs ++ x ∷ []) s.0) h.0 (λ name. Among name (before ++ take s.0 (xs ++ x ∷ []))) (get-left xs (x ∷ []) s.0 h.0 h.1)
            (subst (λ (names : List (List ℕ)). Among h.0 (before ++ names)) (sym (take-left xs (x ∷ []) s.0 less)) h.2),
      )

  second : Among x (before ++ xs) → RepeatsName before (xs ++ x ∷ [])
  second s = (
    length xs,
    here-some (slice_get (xs ++ x ∷ []) (length xs)) x (λ name. Among name (before ++ take (length xs) (xs ++ x ∷ []))) (at-end xs x)
        (subst (λ (names : List (List ℕ)). Among x (before ++ names)) (sym (take-all xs (x ∷ []))) s),
  )

  only : (k : ℕ) (name : List ℕ) → slice_get (x ∷ []) k ≡ Some name → (k ≡ 0) × (x ≡ name)
  only zero name at = (refl, some-inj at)
  only (suc k) name at = cc

  back : RepeatsName before (xs ++ x ∷ []) → RepeatsName before xs ⊎ Among x (before ++ xs)
  back s =
      let h = held (slice_get (xs ++ x ∷ []) s.0) (λ name. Among name (before ++ take s.0 (xs ++ x ∷ []))) s.1 in
      ⊎_elim
      (λ (left : slice_get xs s.0 ≡ Some h.0).
      inl (
        s.0,
        here-some (slice_get xs s.0) h.0 (λ name. Among name (before ++ take s.0 xs)) left
            (subst (λ (names : List (List ℕ)). Among h.0 (before ++ names)) (take-left xs (x ∷ []) s.0 (slice_get_within xs s.0 h.0 left)) h.2),
      ))
      (λ (right : (length xs ≤ s.0) × (slice_get (x ∷ []) (s.0 - length xs) ≡ Some h.0)).
      let o = only (s.0 - length xs) h.0 right.1 in
      let end : s.0 ≡ length xs = omega (arith, right.0, o.0) in
      let names : take s.0 (xs ++ x ∷ []) ≡ xs = ap (λ k. take k (xs ++ x ∷ [])) end ∙ take-all xs (x ∷ []) in
      let here : Among h.0 (before ++ xs) = subst (λ (ns : List (List ℕ)). Among h.0 (before ++ ns)) names h.2 in
      inr (subst (λ n. Among n (before ++ xs)) (sym o.1) here))
      (get-either xs (x ∷ []) s.0 h.0 h.1)

  -- the answers so far, and that of the next name
  pub repeats-push : (was now is : Bool) → (IsTrue is ↔ (IsTrue was ⊎ IsTrue now)) → (IsTrue was ↔ RepeatsName before xs) → (IsTrue now ↔ Among x (before ++ xs))
      → IsTrue is ↔ RepeatsName before (xs ++ x ∷ [])
  repeats-push was now is either one other = (
    λ t. ⊎_elim (λ (a : IsTrue was). first (one.0 a)) (λ (b : IsTrue now). second (other.0 b)) (either.0 t),
    λ s. either.1 (⊎_elim (λ (a : RepeatsName before xs). inl (one.1 a)) (λ (b : Among x (before ++ xs)). inr (other.1 b)) (back s)),
  )

pub repeats-none : (before : List (List ℕ)) → IsTrue false ↔ RepeatsName before []
repeats-none before = (λ t. let no : false ≡ true = t in cc, λ s. let h = held (slice_get [] s.0) (λ name. Among name (before ++ take s.0 [])) s.1 in absurd (nothing s.0 h.0 h.1))
  where
    nothing : (k : ℕ) (name : List ℕ) → slice_get [] k ≡ Some name → ⊥
    nothing k name at = cc

-- one more element
module _ (give : Element → List Name) (elements : List Element) where
  pub flags-none : AreFlags give elements 0 []
  flags-none = record { count = refl; each = λ n e less at. absurd (omega (arith, less)) }

  pub flags-push : (many : ℕ) (flags : List Bool) (e : Element) (flag : Bool) → slice_get elements many ≡ Some e → AreFlags give elements many flags → Tells give elements many e flag
      → AreFlags give elements (many + 1) (flags ++ flag ∷ [])
  flags-push many flags e flag at were tells = record { count = counted flags many were.count; each = λ n other less there. each n other there (cases n less) }
    where
      counted : (fs : List Bool) (k : ℕ) → length fs ≡ k → length (fs ++ flag ∷ []) ≡ k + 1
      counted [] k is = omega (arith, is)
      counted (f ∷ fs) zero is = absurd (omega (arith, is))
      counted (f ∷ fs) (suc k) is = let rest = counted fs k (omega (arith, is)) in omega (arith, rest)

      cases : (n : ℕ) → n < many + 1 → (n < many) ⊎ (n ≡ many)
      cases n less = ⊎_elim (λ (below : n < many). inl below) (λ (above : many ≤ n). let same : n ≡ many = omega (arith, above, less) in inr same) (cases_lt n many)

      each : (n : ℕ) (other : Element) → slice_get elements n ≡ Some other → (n < many) ⊎ (n ≡ many) → (f : Bool) × (slice_get (flags ++ flag ∷ []) n ≡ Some f) × Tells give elements n other f
      each n other there (inl less) = let h = were.each n other less there in (h.0, get-left flags (flag ∷ []) n h.0 h.1, h.2)
      each n other there (inr same) =
          let mine : slice_get (flags ++ flag ∷ []) n ≡ Some flag = ap (λ k. slice_get (flags ++ flag ∷ []) k) (same ∙ sym were.count) ∙ at-end flags flag in
          let whose : e ≡ other = some-inj (sym at ∙ (ap (slice_get elements) (sym same) ∙ there)) in
          (flag, mine, subst (λ k. Tells give elements k other flag) (sym same) (subst (λ x. Tells give elements many x flag) whose tells))

-- a loop noted the next of some names
pub note-step : (before old new : List (List ℕ)) (names : List (Bor (List ℕ))) (at : ℕ) (d : Bor (List ℕ)) (was now is : Bool) → at < length names → old ≡ before ++ names_shown (take at names)
    → new ≡ old ++ (get_or names at d).now ∷ [] → (IsTrue is ↔ (IsTrue was ⊎ IsTrue now)) → (IsTrue was ↔ RepeatsName before (names_shown (take at names)))
    → (IsTrue now ↔ Among (get_or names at d).now old)
    → (new ≡ before ++ names_shown (take (at + 1) names)) × (IsTrue is ↔ RepeatsName before (names_shown (take (at + 1) names)))
note-step before old new names at d was now is less had pushed either one other =
    let x = get_or names at d in
    let own : x ≡ get_or names at x = sym (get_or_from_slice_get names at x x (slice_get-get_or names at d less)) in
    let next : names_shown (take (at + 1) names) ≡ names_shown (take at names) ++ x.now ∷ [] = map-take-one (λ (n : Bor (List ℕ)). n.now) names at x less own in
    let among : IsTrue now ↔ Among x.now (before ++ names_shown (take at names)) = subst (λ (ns : List (List ℕ)). IsTrue now ↔ Among x.now ns) had other in (
      pushed ∙ (ap (λ l. l ++ x.now ∷ []) had ∙ (append_assoc before (names_shown (take at names)) (x.now ∷ []) ∙ ap (λ l. before ++ l) (sym next))),
      subst (λ (ns : List (List ℕ)). IsTrue is ↔ RepeatsName before ns) (sym next) (repeats-push before (names_shown (take at names)) x.now was now is either one among),
    )

flat-take : (give : Element → List Name) (es : List Element) (at : ℕ) (e : Element) → slice_get es at ≡ Some e → flat_map give (take (suc at) es) ≡ flat_map give (take at es) ++ give e
flat-take give [] at e is = cc
flat-take give (x ∷ es) zero e is = append-nil (give x) ∙ ap give (some-inj is)
flat-take give (x ∷ es) (suc at) e is = ap (λ l. give x ++ l) (flat-take give es at e is) ∙ sym (append_assoc (give x) (flat_map give (take at es)) (give e))

-- a loop noted the names of the next element
pub keys-step : (give : Element → List Name) (es : List Element) (at : ℕ) (e : Element) (old new names : List Name) (flags : List Bool) (flag : Bool) → slice_get es at ≡ Some e
    → old ≡ flat_map give (take at es) → new ≡ old ++ names → names ≡ give e → AreFlags give es at flags → (IsTrue flag ↔ RepeatsName old names)
    → (new ≡ flat_map give (take (at + 1) es)) × AreFlags give es (at + 1) (flags ++ flag ∷ [])
keys-step give es at e old new names flags flag there had pushed named were tells =
    let next : suc at ≡ at + 1 = omega arith in
    let told : Tells give es at e flag = subst (λ (ns : List Name). IsTrue flag ↔ RepeatsName (flat_map give (take at es)) ns) named (subst (λ (os : List Name). IsTrue flag ↔ RepeatsName os names) had tells) in (
      pushed ∙ (ap (λ l. l ++ names) had ∙ (ap (λ l. flat_map give (take at es) ++ l) named ∙ (sym (flat-take give es at e there) ∙ ap (λ n. flat_map give (take n es)) next))),
      flags-push give es at flags e flag there were told,
    )

-- what a flag says
pub flag-iff : (give : Element → List Name) (es : List Element) (flags : List Bool) (n : ℕ) (e : Element) (b : Bool) → AreFlags give es (length es) flags → slice_get es n ≡ Some e
    → (IsTrue b ↔ (slice_get flags n ≡ Some true)) → IsTrue b ↔ RepeatsName (flat_map give (take n es)) (give e)
flag-iff give es flags n e b are at is =
    let h = are.each n e (slice_get_within es n e at) at in
    (λ t. h.2.0 (some-inj (sym h.1 ∙ is.0 t)), λ r. is.1 (h.1 ∙ ap Some (h.2.1 r)))

-- the element at a place stands in the table
pub stands-there : (plan : Plan) (place : Place) (e : Element) → OfElement plan place (λ other. other ≡ e) → slice_get (table_of plan) (number_of plan e.place) ≡ Some e
stands-there plan place e is =
    let x = of-element plan (λ (other : Element). other ≡ e) place is in
    ap (λ (o : Element). slice_get (table_of plan) (number_of plan o.place)) (sym x.3) ∙ (ap (λ p. slice_get (table_of plan) (number_of plan p)) x.2 ∙ (x.1 ∙ ap Some x.3))
