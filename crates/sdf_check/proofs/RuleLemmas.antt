use Rattle.std.proofs.Common.{◌≡◌, ◌↔◌, ℕ, ◌+◌, ◌%◌, ◌/◌, ◌<◌, ◌≤◌, List, [], ◌∷◌, length, map, get_or, Bool, true, false, IsTrue, nat_eq, nat_lt, Option, Some, None, refl, sym, ◌∙◌, ap, subst, arith, inl, inr, ◌⊎◌, ⊎_elim}
use Rattle.std.specs.List.{position, position_or_len, slice_get}
use Rattle.std.specs.Str.{bytes_eq}
use Rattle.std.proofs.lemmas.Grind.{common_steps}
use Rattle.std.proofs.lemmas.Bool.{cases_lt, cases_eq}
use Rattle.std.proofs.lemmas.Option.{slice_get_within, get_or_from_slice_get, slice_get-get_or, slice_get-map, slice_get_past}
use Rattle.std.proofs.lemmas.List.{length-map}
use Rattle.std.specs.Option.{is_some, IsNone, IsSomeAnd}
use denote.Ref.{Bor}
use Rattle.std.proofs.lemmas.List.Quantifiers.{position-Some}
use Rattle.std.proofs.lemmas.List.Sums.{fails_before_first}
use Rattle.std.proofs.lemmas.Slice.Eq.{bytes_eq-Decides}
use Rattle.std.proofs.Math.Nat.{mul-mod_left, div-add-mod, mul_comm}
use Rattle.sdf_check.specs.Names.{place_of, StandsBefore}
use Rattle.sdf_check.specs.Rules.{IsMultiple, ArePermissions, count_of}

-- no element passes where no first one is found
pub position-None : {X : Type 0} (p : X → Bool) (xs : List X) (k : ℕ) (x : X) → position p xs ≡ None → slice_get xs k ≡ Some x → p x ≡ false
position-None p xs k x none at =
    let here : get_or xs k x ≡ x = get_or_from_slice_get xs k x x at in
    let less : k < length xs = slice_get_within xs k x at in
    let before : k < position_or_len p xs = grind (arith, common_steps, none, less) in
    subst (λ y. p y ≡ false) here (fails_before_first p xs k x before)

-- the first place of a name is before another exactly where the name stands before it
pub first-before : (name : List ℕ) (names : List (List ℕ)) (first at : ℕ) → place_of name names ≡ Some first → (first < at) ↔ StandsBefore name names at
first-before name names first at is =
    let found : (first < length names) × (bytes_eq (get_or names first name) name ≡ true) × ((k : ℕ) → k < first → bytes_eq (get_or names k name) name ≡ false)
    = position-Some (λ other. bytes_eq other name) names first name is in (
      λ less. (first, less, slice_get-get_or names first name found.0 ∙ ap Some ((bytes_eq-Decides (get_or names first name) name).0 found.1)),
      λ earlier.
          let same : bytes_eq (get_or names earlier.0 name) name ≡ true =
          (bytes_eq-Decides _ _).1 (get_or_from_slice_get names earlier.0 name name earlier.2) in
          let not_before : earlier.0 < first → ⊥ = λ less. let no : true ≡ false = sym same ∙ found.2 earlier.0 less in cc in
          ⊎_elim (λ (h : earlier.0 < first). absurd (not_before h)) (λ (h : first ≤ earlier.0). omega (arith, earlier.1, h)) (cases_lt earlier.0 first),
    )

-- a name that isn't found stands before no place
pub none-before : (name : List ℕ) (names : List (List ℕ)) (at : ℕ) → place_of name names ≡ None → StandsBefore name names at → ⊥
none-before name names at is earlier =
    let differs : bytes_eq name name ≡ false = position-None (λ other. bytes_eq other name) names earlier.0 name is earlier.2 in
    let same : bytes_eq name name ≡ true = (bytes_eq-Decides name name).1 refl in
    let no : true ≡ false = sym same ∙ differs in cc

-- a remainder of zero
pub multiple-iff : (number of : ℕ) → IsTrue (nat_eq (number % of) 0) ↔ IsMultiple number of
multiple-iff number of = (
  λ none. let zero_left : number % of ≡ 0 = grind (arith, none) in (number / of, omega (arith, zero_left, div-add-mod number of, mul_comm of (number / of))),
  λ m. let zero_left : number % of ≡ 0 = ap (λ n. n % of) m.1 ∙ mul-mod_left m.0 of in grind (arith, zero_left),
)

-- a text that has as many of one letter as it has letters, and at most one
one-letter : (letter : ℕ) (text : List ℕ) → length text ≡ count_of letter text → count_of letter text ≤ 1 → (text ≡ []) ⊎ (text ≡ letter ∷ [])
one-letter letter [] len most = inl refl
one-letter letter (x ∷ []) len most =
    ⊎_elim (λ (e : x ≡ letter). inr (ap (λ y. y ∷ []) e)) (λ (ne : x ≡ letter → ⊥). absurd (let no : ⊥ = grind (arith, len, ne) in no)) (cases_eq x letter)
one-letter letter (x ∷ y ∷ text) len most = let no : ⊥ = omega (arith, len, most) in absurd no

-- the counts that permissions have
pub permissions-iff : (perms : List ℕ) (r w x : ℕ) → r ≡ count_of 114 perms → w ≡ count_of 119 perms → x ≡ count_of 120 perms
    → ((r ≤ 1) × (w ≤ 1) × (x ≤ 1) × (r + w + x ≡ length perms) × (0 < r + x)) ↔ ArePermissions perms
permissions-iff perms r w x er ew ex = (
  λ (lr, lw, lx, all, some). record {
    letters = sym all ∙ ap (λ n. n + w + x) er ∙ ap (λ n. count_of 114 perms + n + x) ew ∙ ap (λ n. count_of 114 perms + count_of 119 perms + n) ex;
    r_once = rw (← er) lr;
    w_once = rw (← ew) lw;
    x_once = rw (← ex) lx;
    not_empty = λ e. let r0 : r ≡ 0 = er ∙ ap (count_of 114) e in let x0 : x ≡ 0 = ex ∙ ap (count_of 120) e in omega (arith, r0, x0, some);
    not_w_alone = λ e. let r0 : r ≡ 0 = er ∙ ap (count_of 114) e in let x0 : x ≡ 0 = ex ∙ ap (count_of 120) e in omega (arith, r0, x0, some);
  },
  λ p.
      let some : 0 < r + x =
      ⊎_elim (λ (less : 0 < r + x). less) (λ (none : r + x ≤ 0).
      let len : length perms ≡ count_of 119 perms = omega (arith, none, p.letters, er, ex) in
      absurd (⊎_elim p.not_empty p.not_w_alone (one-letter 119 perms len p.w_once))) (cases_lt 0 (r + x)) in
      (rw er p.r_once, rw ew p.w_once, rw ex p.x_once, omega (arith, p.letters, er, ew, ex), some),
)

-- the name at a place of a list of names behind references
pub name-here : (names : List (Bor (List ℕ))) (at : ℕ) (d : Bor (List ℕ)) → at < length names
    → slice_get (map (λ (n : Bor (List ℕ)). n.now) names) at ≡ Some (get_or names at d).now
name-here names at d less = slice_get-map (λ (n : Bor (List ℕ)). n.now) names at ∙ rw (slice_get-get_or names at d less) refl

-- one more name of a list is found
pub found-here : (find : List ℕ → Option ℕ) (names : List (Bor (List ℕ))) (at : ℕ) (d : Bor (List ℕ)) → at < length names
    → is_some (find (get_or names at d).now) ≡ true → IsSomeAnd (slice_get (map (λ (n : Bor (List ℕ)). n.now) names) at) (λ n. IsNone (find n)) → ⊥
found-here find names at d less found miss =
    let none : is_some (find (get_or names at d).now) ≡ false = subst (λ (o : Option (List ℕ)). IsSomeAnd o (λ n. IsNone (find n))) (name-here names at d less) miss in
    let no : true ≡ false = sym found ∙ none in cc

-- a name of a list isn't found
pub missed-here : (find : List ℕ → Option ℕ) (names : List (Bor (List ℕ))) (at : ℕ) (d : Bor (List ℕ)) → at < length names
    → is_some (find (get_or names at d).now) ≡ false → IsSomeAnd (slice_get (map (λ (n : Bor (List ℕ)). n.now) names) at) (λ n. IsNone (find n))
missed-here find names at d less missed =
    subst (λ (o : Option (List ℕ)). IsSomeAnd o (λ n. IsNone (find n))) (sym (name-here names at d less)) missed

-- no name past the end of a list
pub past-names : (find : List ℕ → Option ℕ) (names : List (Bor (List ℕ))) (k : ℕ) → length names ≤ k
    → IsSomeAnd (slice_get (map (λ (n : Bor (List ℕ)). n.now) names) k) (λ n. IsNone (find n)) → ⊥
past-names find names k past miss =
    let end : length (map (λ (n : Bor (List ℕ)). n.now) names) ≤ k = rw length-map past in
    subst (λ (o : Option (List ℕ)). IsSomeAnd o (λ n. IsNone (find n))) (slice_get_past (map (λ (n : Bor (List ℕ)). n.now) names) k end) miss

-- a test of two numbers for the order itself
pub less-iff : {a b : ℕ} {P : Type 0} → (a < b) ↔ P → IsTrue (nat_lt a b) ↔ P
less-iff {a} {b} h = (λ t. let less : a < b = grind (arith, t) in h.0 less, λ p. let less : a < b = h.1 p in grind (arith, less))
