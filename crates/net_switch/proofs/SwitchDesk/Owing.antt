-- What is owed to one port by the ports of an order, where what one of them owes changes.
use Rattle.std.proofs.Common.{◌≡◌, ℕ, zero, suc, ◌<◌, ◌≤◌, take, slice_get, Bool, true, false, not, eqb, List, [], ◌∷◌, ◌++◌, length, flat_map, Option, Some, None, inl, inr, refl, ap, sym, ◌∙◌, arith}
use Rattle.std.specs.List.{filter, find}
use Rattle.std.specs.Option.{is_some}
use Rattle.std.proofs.lemmas.Bool.{cases_Bool, eqb-true, eq-eqb}
use Rattle.std.proofs.lemmas.List.{append-nil}
use Rattle.std.proofs.lemmas.Grind.{flat_map-append}
use Rattle.net_switch.specs.SwitchDesk.Frames.{Sent}
use Rattle.net_switch.specs.SwitchDesk.Orders.{times, turned_last}
use Rattle.net_switch.proofs.SwitchDesk.Orders.{skipped, counted}

module _ (f f' : ℕ → List Sent) (place : ℕ) (same : (x : ℕ) → (x ≡ place → ⊥) → f' x ≡ f x) where
  -- those that stand elsewhere owe the same
  others : (xs : List ℕ) → f place ≡ [] → flat_map f' (filter (λ x. not (eqb x place)) xs) ≡ flat_map f xs
  others [] none = refl
  others (x ∷ xs) none = elim (cases_Bool (eqb x place)) [
    | inl is ↦
        let owes : f x ≡ [] = ap f (eqb-true x place is) ∙ none in
        rw (is, owes) (others xs none)
    | inr isnt ↦
        let stays : f' x ≡ f x = same x (λ e. let bad = sym (eq-eqb x place e) ∙ isnt in cc) in
        rw (isnt, stays) (ap (λ l. f x ++ l) (others xs none))
  ]

  -- one that owed nothing comes last, and owes what it now does
  pub owed_turned : (xs : List ℕ) → f place ≡ [] → flat_map f' (turned_last place xs) ≡ flat_map f xs ++ f' place
  owed_turned xs none =
      flat_map-append f' (filter (λ x. not (eqb x place)) xs) (place ∷ [])
      ∙ (ap (λ l. l ++ (f' place ++ [])) (others xs none) ∙ ap (λ l. flat_map f xs ++ l) (append-nil (f' place)))

  -- where it doesn't stand, nothing changes
  owed_beside : (xs : List ℕ) → times place xs ≡ 0 → flat_map f' xs ≡ flat_map f xs
  owed_beside [] none = refl
  owed_beside (x ∷ xs) none = elim (cases_Bool (eqb x place)) [
    | inl is ↦ absurd (let one = counted place x xs is in omega (arith, one, none))
    | inr isnt ↦
        let stays : f' x ≡ f x = same x (λ e. let bad = sym (eq-eqb x place e) ∙ isnt in cc) in
        rw stays (ap (λ l. f x ++ l) (owed_beside xs (sym (skipped place x xs isnt) ∙ none)))
  ]

  -- what the first one owed is owed no more
  pub owed_settled : (p : ℕ → Bool) (c : Sent) (xs : List ℕ) → find p xs ≡ Some place → ((x : ℕ) → p x ≡ false → f x ≡ []) → f place ≡ c ∷ [] → f' place ≡ [] → times place xs ≡ 1
      → flat_map f xs ≡ c ∷ flat_map f' xs
  owed_settled p c [] found quiet one none once = cc
  owed_settled p c (x ∷ xs) found quiet one none once = elim (cases_Bool (p x)) [
    | inl is ↦
        let here : x ≡ place = let e = rw is at found in cc in
        let counts = counted place x xs (eq-eqb x place here) in
        let rest = owed_beside xs (omega (arith, counts, once)) in
        rw (here, one, none) (ap (λ l. c ∷ l) (sym rest))
    | inr isnt ↦
        let apart : x ≡ place → ⊥ = λ e. let bad = sym one ∙ (ap f (sym e) ∙ quiet x isnt) in cc in
        let stays : f' x ≡ f x = same x apart in
        let owes : f x ≡ [] = quiet x isnt in
        let later : find p xs ≡ Some place = rw isnt at found in
        let off : eqb x place ≡ false = elim (cases_Bool (eqb x place)) [
          | inl e ↦ absurd (apart (eqb-true x place e))
          | inr e ↦ e
        ] in
        rw (stays, owes) (owed_settled p c xs later quiet one none (sym (skipped place x xs off) ∙ once))
  ]

-- what the first one owes comes first
pub owed_first : (f : ℕ → List Sent) (p : ℕ → Bool) (place : ℕ) (c : Sent) (xs : List ℕ) → find p xs ≡ Some place → ((x : ℕ) → p x ≡ false → f x ≡ []) → f place ≡ c ∷ []
    → (rest : List Sent) × (flat_map f xs ≡ c ∷ rest)
owed_first f p place c [] found quiet one = cc
owed_first f p place c (x ∷ xs) found quiet one = elim (cases_Bool (p x)) [
  | inl is ↦
      let here : x ≡ place = let e = rw is at found in cc in
      (flat_map f xs, ap (λ y. f y ++ flat_map f xs) here ∙ ap (λ l. l ++ flat_map f xs) one)
  | inr isnt ↦
      let later : find p xs ≡ Some place = rw isnt at found in
      let rest = owed_first f p place c xs later quiet one in
      (rest.0, ap (λ l. l ++ flat_map f xs) (quiet x isnt) ∙ rest.1)
]

-- what one that owes nothing doesn't change
pub owed_same : (f f' : ℕ → List Sent) (xs : List ℕ) → ((x : ℕ) → f' x ≡ f x) → flat_map f' xs ≡ flat_map f xs
owed_same f f' [] same = refl
owed_same f f' (x ∷ xs) same = rw (same x) (ap (λ l. f x ++ l) (owed_same f f' xs same))

-- what is found stands there, and is so
pub found_there : (p : ℕ → Bool) (x : ℕ) (xs : List ℕ) → find p xs ≡ Some x → (p x ≡ true) × (0 < times x xs)
found_there p x [] found = cc
found_there p x (y ∷ xs) found = elim (cases_Bool (p y)) [
  | inl is ↦
      let here : y ≡ x = let e = rw is at found in cc in
      let counts = counted x y xs (eq-eqb y x here) in
      (ap p (sym here) ∙ is, omega (arith, counts))
  | inr isnt ↦
      let later : find p xs ≡ Some x = rw isnt at found in
      let rest = found_there p x xs later in
      (rest.0, some_more x y xs rest.1)
]
  where
    some_more : (x y : ℕ) (xs : List ℕ) → 0 < times x xs → 0 < times x (y ∷ xs)
    some_more x y xs some = elim (cases_Bool (eqb y x)) [
      | inl is ↦ let counts = counted x y xs is in omega (arith, counts)
      | inr isnt ↦ let counts = skipped x y xs isnt in omega (arith, counts, some)
    ]

-- where one that stands there is so, one is found
pub there_found : (p : ℕ → Bool) (x : ℕ) (xs : List ℕ) → p x ≡ true → 0 < times x xs → is_some (find p xs) ≡ true
there_found p x [] is some = absurd (omega (arith, some))
there_found p x (y ∷ xs) is some = elim (cases_Bool (p y)) [
  | inl so ↦ rw so refl
  | inr isnt ↦
      let off : eqb y x ≡ false = elim (cases_Bool (eqb y x)) [
        | inl e ↦ let bad = sym is ∙ (ap p (sym (eqb-true y x e)) ∙ isnt) in cc
        | inr e ↦ e
      ] in
      let less = skipped x y xs off in
      rw isnt (there_found p x xs is (omega (arith, less, some)))
]

-- an option that is there
pub some_there : {X : Type 0} (o : Option X) → is_some o ≡ true → (x : X) × (o ≡ Some x)
some_there None h = cc
some_there (Some x) h = (x, refl)

-- the first so many are searched one by one
pub find_later : (p : ℕ → Bool) (xs : List ℕ) (k x : ℕ) → slice_get xs k ≡ Some x → p x ≡ false → find p (take k xs) ≡ None → find p (take (suc k) xs) ≡ None
find_later p [] k x at isnt none = refl
find_later p (y ∷ xs) zero x at isnt none = let same : y ≡ x = cc in rw (same, isnt) refl
find_later p (y ∷ xs) (suc k) x at isnt none = elim (cases_Bool (p y)) [
  | inl is ↦ absurd (let bad = rw is at none in cc)
  | inr off ↦ rw off (find_later p xs k x at isnt (rw off at none))
]

pub find_now : (p : ℕ → Bool) (xs : List ℕ) (k x : ℕ) → slice_get xs k ≡ Some x → p x ≡ true → find p (take k xs) ≡ None → find p xs ≡ Some x
find_now p [] k x at is none = cc
find_now p (y ∷ xs) zero x at is none = let same : y ≡ x = cc in rw (same, is) refl
find_now p (y ∷ xs) (suc k) x at is none = elim (cases_Bool (p y)) [
  | inl so ↦ absurd (let bad = rw so at none in cc)
  | inr off ↦ rw off (find_now p xs k x at is (rw off at none))
]

pub find_all : (p : ℕ → Bool) (xs : List ℕ) (k : ℕ) → length xs ≤ k → find p (take k xs) ≡ None → find p xs ≡ None
find_all p [] k past none = refl
find_all p (y ∷ xs) zero past none = absurd (omega (arith, past))
find_all p (y ∷ xs) (suc k) past none = elim (cases_Bool (p y)) [
  | inl so ↦ absurd (let bad = rw so at none in cc)
  | inr off ↦ rw off (find_all p xs k (omega (arith, past)) (rw off at none))
]
