-- The elements of a class at their places: first the class itself, and then each client by its number.
use Rattle.std.proofs.Common.{◌≡◌, ℕ, zero, suc, ◌+◌, List, [], ◌∷◌, map, Option, Some, None, refl, sym, ◌∙◌, ap, subst, arith, add-zero}
use Rattle.std.specs.Bool.{⊤}
use Rattle.std.specs.List.{slice_get}
use Rattle.std.specs.Option.{IsSomeAnd, MatchOption, option_map, option_map_or}
use denote.Ref.{Bor}
use Rattle.std.proofs.lemmas.Option.{slice_get-map}
use Rattle.sdf_plan.specs.declared.class_table.uses.ClassElement.{ClassElement}
use Rattle.sdf_plan.specs.ClassTable.Table.{Element, numbered}
use Rattle.sdf_plan.specs.ClassTable.Shown.{Shelved, element_shown}

-- the client with a number
pub numbered-get : {C T : Type 0} (give : ℕ → C → T) (c : ℕ) (clients : List C) (k : ℕ) → slice_get (numbered give c clients) k ≡ option_map (give (c + k)) (slice_get clients k)
numbered-get give c [] k = refl
numbered-get give c (client ∷ rest) zero = ap (λ n. Some (give n client)) (sym (add-zero c))
numbered-get give c (client ∷ rest) (suc k) =
    let same : c + 1 + k ≡ c + suc k = omega arith in
    numbered-get give (c + 1) rest k ∙ ap (λ n. option_map (give n) (slice_get rest k)) same

shown-some : (es : List (ClassElement Shelved)) (k : ℕ) (e : ClassElement Shelved) → slice_get es k ≡ Some e → slice_get (map element_shown es) k ≡ Some (element_shown e)
shown-some es k e is = slice_get-map element_shown es k ∙ rw is refl

shown-none : (es : List (ClassElement Shelved)) (k : ℕ) → slice_get es k ≡ None → slice_get (map element_shown es) k ≡ None
shown-none es k is = slice_get-map element_shown es k ∙ rw is refl

pub some-same : {X : Type 0} {a b : X} → Some a ≡ Some b → a ≡ b
some-same {X} {a} {b} e = ap (λ (o : Option X). elim o [ Some x ↦ x | None ↦ a ]) e

module _ {C K : Type 0} (first : C → Element) (give : C → ℕ → K → Element) (clients : C → List K) where
  abbrev all : C → List Element
  all x = first x ∷ numbered (give x) 0 (clients x)

  class-is : (o : Option C) (e : Element) → slice_get (option_map_or all o []) 0 ≡ Some e → IsSomeAnd o (λ x. first x ≡ e)
  class-is None e is = let no : None ≡ Some e = is in cc
  class-is (Some x) e is = some-same is

  class-isnt : (o : Option C) → slice_get (option_map_or all o []) 0 ≡ None → IsSomeAnd o (λ x. ⊤) → ⊥
  class-isnt None is h = h
  class-isnt (Some x) is h = let no : Some (first x) ≡ None = is in cc

  given : (o : Option K) (x : C) (c : ℕ) (e : Element) → option_map (give x c) o ≡ Some e → IsSomeAnd o (λ k. give x c k ≡ e)
  given None x c e is = let no : None ≡ Some e = is in cc
  given (Some k) x c e is = some-same is

  not-given : (o : Option K) (x : C) (c : ℕ) → option_map (give x c) o ≡ None → IsSomeAnd o (λ k. ⊤) → ⊥
  not-given None x c is h = h
  not-given (Some k) x c is h = let no : Some (give x c k) ≡ None = is in cc

  at-client : (x : C) (c : ℕ) → slice_get (numbered (give x) 0 (clients x)) c ≡ option_map (give x c) (slice_get (clients x) c)
  at-client x c = let same : 0 + c ≡ c = omega arith in numbered-get (give x) 0 (clients x) c ∙ ap (λ n. option_map (give x n) (slice_get (clients x) c)) same

  client-is : (o : Option C) (c : ℕ) (e : Element) → slice_get (option_map_or all o []) (suc c) ≡ Some e
      → IsSomeAnd o (λ x. IsSomeAnd (slice_get (clients x) c) (λ k. give x c k ≡ e))
  client-is None c e is = let no : None ≡ Some e = is in cc
  client-is (Some x) c e is = given (slice_get (clients x) c) x c e (sym (at-client x c) ∙ is)

  client-isnt : (o : Option C) (c : ℕ) → slice_get (option_map_or all o []) (suc c) ≡ None
      → IsSomeAnd o (λ x. IsSomeAnd (slice_get (clients x) c) (λ k. ⊤)) → ⊥
  client-isnt None c is h = h
  client-isnt (Some x) c is h = not-given (slice_get (clients x) c) x c (sym (at-client x c) ∙ is) h

  -- the same of what the program has
  class-there : (o : Option C) (es : List (ClassElement Shelved)) (e : ClassElement Shelved) → map element_shown es ≡ option_map_or all o [] → slice_get es 0 ≡ Some e
      → IsSomeAnd o (λ x. first x ≡ element_shown e)
  class-there o es e same is = class-is o (element_shown e) (subst (λ (xs : List Element). slice_get xs 0 ≡ Some (element_shown e)) same (shown-some es 0 e is))

  class-gone : (o : Option C) (es : List (ClassElement Shelved)) → map element_shown es ≡ option_map_or all o [] → slice_get es 0 ≡ None → IsSomeAnd o (λ x. ⊤) → ⊥
  class-gone o es same is = class-isnt o (subst (λ (xs : List Element). slice_get xs 0 ≡ None) same (shown-none es 0 is))

  client-there : (o : Option C) (es : List (ClassElement Shelved)) (c : ℕ) (e : ClassElement Shelved) → map element_shown es ≡ option_map_or all o [] → slice_get es (c + 1) ≡ Some e
      → IsSomeAnd o (λ x. IsSomeAnd (slice_get (clients x) c) (λ k. give x c k ≡ element_shown e))
  client-there o es c e same is =
      let next : c + 1 ≡ suc c = omega arith in
      client-is o c (element_shown e) (subst (λ (xs : List Element). slice_get xs (suc c) ≡ Some (element_shown e)) same (shown-some es (suc c) e (subst (λ n. slice_get es n ≡ Some e) next is)))

  client-gone : (o : Option C) (es : List (ClassElement Shelved)) (c : ℕ) → map element_shown es ≡ option_map_or all o [] → slice_get es (c + 1) ≡ None
      → IsSomeAnd o (λ x. IsSomeAnd (slice_get (clients x) c) (λ k. ⊤)) → ⊥
  client-gone o es c same is =
      let next : c + 1 ≡ suc c = omega arith in
      client-isnt o c (subst (λ (xs : List Element). slice_get xs (suc c) ≡ None) same (shown-none es (suc c) (subst (λ n. slice_get es n ≡ None) next is)))

  -- the answer for a class, and for a client
  pub class-match : (o : Option C) (es : List (ClassElement Shelved)) (result : Option (Bor (ClassElement Shelved))) → map element_shown es ≡ option_map_or all o []
      → MatchOption result (slice_get es 0 ≡ None) (λ e. slice_get es 0 ≡ Some e.now)
      → MatchOption result (IsSomeAnd o (λ x. ⊤) → ⊥) (λ e. IsSomeAnd o (λ x. first x ≡ element_shown e.now))
  class-match o es None same is = class-gone o es same is
  class-match o es (Some e) same is = class-there o es e.now same is

  pub client-match : (o : Option C) (es : List (ClassElement Shelved)) (c : ℕ) (result : Option (Bor (ClassElement Shelved))) → map element_shown es ≡ option_map_or all o []
      → MatchOption result (slice_get es (c + 1) ≡ None) (λ e. slice_get es (c + 1) ≡ Some e.now)
      → MatchOption result (IsSomeAnd o (λ x. IsSomeAnd (slice_get (clients x) c) (λ k. ⊤)) → ⊥)
      (λ e. IsSomeAnd o (λ x. IsSomeAnd (slice_get (clients x) c) (λ k. give x c k ≡ element_shown e.now)))
  client-match o es c None same is = client-gone o es c same is
  client-match o es c (Some e) same is = client-there o es c e.now same is
