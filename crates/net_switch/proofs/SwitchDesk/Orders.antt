-- The places of an order: each stands there once, also after one of them was turned to.
use Rattle.std.proofs.Common.{◌≡◌, ℕ, suc, ◌+◌, ◌<◌, true, false, cond, not, ltb, eqb, slice_index_or, List, [], ◌∷◌, ◌++◌, length, Some, None, refl, inl, inr, ap, sym, ◌∙◌, zero-add, arith}
use Rattle.std.specs.List.{filter, position, position_or_len, remove}
use Rattle.std.proofs.lemmas.Bool.{cases_Bool, cases_lt, eqb-true, eq-eqb, ltb-true, lt-ltb}
use Rattle.wire_core.specs.Bells.{bit}
use Rattle.net_switch.specs.SwitchDesk.Orders.{times, AreOnce, turned_last}

pub apart : (a b : ℕ) → (a ≡ b → ⊥) → eqb a b ≡ false
apart a b h = elim (cases_Bool (eqb a b)) [
  | inl is ↦ absurd (h (eqb-true a b is))
  | inr isnt ↦ isnt
]

pub times_append : (place : ℕ) (xs ys : List ℕ) → times place (xs ++ ys) ≡ times place xs + times place ys
times_append place [] ys = sym (zero-add (times place ys))
times_append place (x ∷ xs) ys = let rest = times_append place xs ys in omega (arith, rest)

-- one more place, in rising order
pub once_more : (count : ℕ) (places : List ℕ) → AreOnce count places → AreOnce (count + 1) (places ++ count ∷ [])
once_more count places h = record {
  once = λ place below. times_append place places (count ∷ []) ∙ elim (cases_lt place count) [
    | inl before ↦ let once = h.once place before in let none = apart count place (λ is. omega (arith, is, before)) in rw (once, none) refl
    | inr here ↦ let same : count ≡ place = omega (arith, here, below) in let none = h.none place here in let is = eq-eqb count place same in rw (none, is) refl
  ];
  none = λ place past. times_append place places (count ∷ []) ∙ (let none = h.none place (omega (arith, past)) in let isnt = apart count place (λ is. omega (arith, is, past)) in rw (none, isnt) refl);
}

pub none_once : AreOnce 0 []
none_once = record {
  once = λ place below. absurd (omega (arith, below));
  none = λ place past. refl;
}

-- of the others, none is left out where a place doesn't stand
pub skipped : (place x : ℕ) (xs : List ℕ) → eqb x place ≡ false → times place (x ∷ xs) ≡ times place xs
skipped place x xs isnt = rw isnt (zero-add (times place xs))

pub counted : (place x : ℕ) (xs : List ℕ) → eqb x place ≡ true → times place (x ∷ xs) ≡ 1 + times place xs
counted place x xs is = rw is refl

pub kept_all : (place : ℕ) (xs : List ℕ) → times place xs ≡ 0 → filter (λ other. not (eqb other place)) xs ≡ xs
kept_all place [] h = refl
kept_all place (x ∷ xs) h = elim (cases_Bool (eqb x place)) [
  | inl is ↦ absurd (let one = counted place x xs is in omega (arith, one, h))
  | inr isnt ↦ let rest = kept_all place xs (sym (skipped place x xs isnt) ∙ h) in rw isnt (ap (λ ys. x ∷ ys) rest)
]

found_later : (place x : ℕ) (xs : List ℕ) → eqb x place ≡ false → position_or_len (λ other. eqb other place) (x ∷ xs) ≡ suc (position_or_len (λ other. eqb other place) xs)
found_later place x xs isnt = rw isnt (omega arith)

turned_from : (place : ℕ) (xs : List ℕ) → position_or_len (λ other. eqb other place) xs < length xs → times place xs ≡ 1
    → remove xs (position_or_len (λ other. eqb other place) xs) ++ place ∷ [] ≡ turned_last place xs
turned_from place [] h one = absurd (omega (arith, h))
turned_from place (x ∷ xs) h one = elim (cases_Bool (eqb x place)) [
  | inl is ↦
      let none : times place xs ≡ 0 = let all = counted place x xs is in omega (arith, all, one) in
      let all = kept_all place xs none in
      rw (is, all) refl
  | inr isnt ↦
      let less = found_later place x xs isnt in
      let more : position_or_len (λ other. eqb other place) xs < length xs = omega (arith, h, less) in
      rw (less) (rw isnt (ap (λ ys. x ∷ ys) (turned_from place xs more (sym (skipped place x xs isnt) ∙ one))))
]

found_at : (m n k : ℕ) → cond (ltb m n) (Some m) None ≡ Some k → (m < n) × (m ≡ k)
found_at m n k h = elim (cases_Bool (ltb m n)) [
  | inl is ↦ (ltb-true m n is, (let e = rw is at h in cc))
  | inr isnt ↦ absurd (let e = rw isnt at h in cc)
]

lost : (m n : ℕ) → m < n → cond (ltb m n) (Some m) None ≡ None → ⊥
lost m n less h = let e = rw (lt-ltb m n less) at h in cc

-- where it stands, it is found
within : (place : ℕ) (xs : List ℕ) → 0 < times place xs → position_or_len (λ other. eqb other place) xs < length xs
within place [] some = absurd (omega (arith, some))
within place (x ∷ xs) some = elim (cases_Bool (eqb x place)) [
  | inl is ↦ rw is (omega arith)
  | inr isnt ↦ let less = found_later place x xs isnt in let rest = within place xs (let same = skipped place x xs isnt in omega (arith, same, some)) in omega (arith, less, rest)
]

there : (place d : ℕ) (xs : List ℕ) → position_or_len (λ other. eqb other place) xs < length xs → slice_index_or xs (position_or_len (λ other. eqb other place) xs) d ≡ place
there place d [] h = absurd (omega (arith, h))
there place d (x ∷ xs) h = elim (cases_Bool (eqb x place)) [
  | inl is ↦ rw is (eqb-true x place is)
  | inr isnt ↦
      let less = found_later place x xs isnt in
      let more : position_or_len (λ other. eqb other place) xs < length xs = omega (arith, h, less) in
      rw less (there place d xs more)
]

-- the place that was found is turned to
pub turned_at : (place at turned : ℕ) (xs now : List ℕ) → Some at ≡ position (λ other. eqb other place) xs → times place xs ≡ 1
    → turned ≡ slice_index_or xs at turned → now ≡ remove xs at → now ++ turned ∷ [] ≡ turned_last place xs
turned_at place at turned xs now h one is now_is =
    let found = found_at (position_or_len (λ other. eqb other place) xs) (length xs) at (sym h) in
    let here : turned ≡ place = is ∙ (ap (λ n. slice_index_or xs n turned) (sym found.1) ∙ there place turned xs found.0) in
    rw (now_is, here, ← found.1) (turned_from place xs found.0 one)

-- it is found
pub not_lost : (place : ℕ) (xs : List ℕ) → None ≡ position (λ other. eqb other place) xs → times place xs ≡ 1 → ⊥
not_lost place xs h one = lost (position_or_len (λ other. eqb other place) xs) (length xs) (within place xs (omega (arith, one))) (sym h)

-- the others stand there as often afterwards
kept_times : (place other : ℕ) (xs : List ℕ) → (other ≡ place → ⊥) → times other (filter (λ (x : ℕ). not (eqb x place)) xs) ≡ times other xs
kept_times place other [] ne = refl
kept_times place other (x ∷ xs) ne = elim (cases_Bool (eqb x place)) [
  | inl is ↦
      let isnt : eqb x other ≡ false = apart x other (λ e. ne (sym e ∙ eqb-true x place is)) in
      let rest = kept_times place other xs ne in
      rw is (rest ∙ sym (skipped other x xs isnt))
  | inr isnt ↦ let rest = kept_times place other xs ne in rw isnt (ap (λ n. bit (eqb x other) + n) rest)
]

gone_times : (place : ℕ) (xs : List ℕ) → times place (filter (λ (x : ℕ). not (eqb x place)) xs) ≡ 0
gone_times place [] = refl
gone_times place (x ∷ xs) = elim (cases_Bool (eqb x place)) [
  | inl is ↦ let rest = gone_times place xs in rw is rest
  | inr isnt ↦ let rest = gone_times place xs in rw isnt (skipped place x (filter (λ (y : ℕ). not (eqb y place)) xs) isnt ∙ rest)
]

pub turned_times : (place other : ℕ) (xs : List ℕ) → (other ≡ place → ⊥) → times other (turned_last place xs) ≡ times other xs
turned_times place other xs ne =
    let all = times_append other (filter (λ (x : ℕ). not (eqb x place)) xs) (place ∷ []) in
    let none = skipped other place [] (apart place other (λ e. ne (sym e))) in
    let rest = kept_times place other xs ne in
    let nil : times other [] ≡ 0 = refl in
    omega (arith, all, none, rest, nil)

itself : (place : ℕ) (xs : List ℕ) → times place (turned_last place xs) ≡ 1
itself place xs =
    let all = times_append place (filter (λ (x : ℕ). not (eqb x place)) xs) (place ∷ []) in
    let one = counted place place [] (eq-eqb place place refl) in
    let rest = gone_times place xs in
    let nil : times place [] ≡ 0 = refl in
    omega (arith, all, one, rest, nil)

pub turned_once : (place count : ℕ) (xs : List ℕ) → place < count → AreOnce count xs → AreOnce count (turned_last place xs)
turned_once place count xs there h = record {
  once = λ other below. elim (cases_Bool (eqb other place)) [
    | inl is ↦ ap (λ n. times n (turned_last place xs)) (eqb-true other place is) ∙ itself place xs
    | inr isnt ↦ turned_times place other xs (λ e. let bad = sym (eq-eqb other place e) ∙ isnt in cc) ∙ h.once other below
  ];
  none = λ other past. turned_times place other xs (λ e. omega (arith, e, past, there)) ∙ h.none other past;
}
