use Rattle.std.proofs.Common.{◌≡◌, ℕ, ◌+◌, ◌<◌, List, [], ◌∷◌, ◌++◌, length, map, take, get_or, Bool, true, false, not, cond, Option, Some, None, refl, sym, ◌∙◌, ap, subst, arith, add-one, length-append}
use Rattle.std.specs.Option.{is_some}
use Rattle.std.specs.Map.{update}
use Rattle.std.specs.Str.{bytes_eq}
use Rattle.std.specs.List.{position}
use Rattle.std.proofs.lemmas.Grind.{common_steps}
use Rattle.std.proofs.lemmas.List.{map-append, length-map, length-take-le}
use Rattle.std.proofs.Math.Seq.{take-suc}
use Rattle.std.proofs.lemmas.List.Sums.{prefix_len-le-length}
use Rattle.std.proofs.lemmas.List.Folds.{position_or_len_push}
use Rattle.std.proofs.lemmas.Slice.Eq.{bytes_eq-Decides}
use Rattle.std.specs.BTreeMap.{BTreeMap}
use denote.Ref.{Bor}
use Rattle.sdf_check.specs.Names.{place_of}
use Rattle.sdf_check.specs.Lookups.{FindsPlaces}

-- the first place that passes, once an element is pushed
pub position-push : {X : Type 0} (p : X → Bool) (xs : List X) (y : X)
    → position p (xs ++ y ∷ []) ≡ cond (is_some (position p xs)) (position p xs) (cond (p y) (Some (length xs)) None)
position-push p xs y = grind (arith, common_steps, position_or_len_push p xs y, length-append xs (y ∷ []), prefix_len-le-length (λ x. not (p x)) xs)

-- what was found before, or the new place: the two ways in which a look-up goes after a new name
new-found : (was : Option ℕ) (at : ℕ) (same : Bool) → (same ≡ true → was ≡ None)
    → cond same (Some at) was ≡ cond (is_some was) was (cond same (Some at) None)
new-found None at true h = refl
new-found None at false h = refl
new-found (Some w) at true h = let no : Some w ≡ None = h refl in cc
new-found (Some w) at false h = refl

-- a new name was noted
pub note-new : (name cs : List ℕ) (names : List (List ℕ)) (at : ℕ) (old new : List ℕ → Option ℕ) → length names ≡ at
    → ((q : List ℕ) → old q ≡ place_of q names) → old name ≡ None → new cs ≡ update bytes_eq old name (Some at) cs
    → new cs ≡ place_of cs (names ++ name ∷ [])
note-new name cs names at old new len finds absent updated =
    let none : bytes_eq name cs ≡ true → place_of cs names ≡ None =
    λ same. subst (λ (q : List ℕ). place_of q names ≡ None) ((bytes_eq-Decides name cs).0 same) (sym (finds name) ∙ absent) in
    updated ∙ ap (λ o. cond (bytes_eq name cs) (Some at) o) (finds cs) ∙ new-found (place_of cs names) at (bytes_eq name cs) none
    ∙ sym (rw (← len) (position-push (λ other. bytes_eq other cs) names name))

had-found : (was : Option ℕ) (at : ℕ) (same : Bool) → (same ≡ true → is_some was ≡ true) → was ≡ cond (is_some was) was (cond same (Some at) None)
had-found None at true h = let no : false ≡ true = h refl in cc
had-found None at false h = refl
had-found (Some w) at same h = refl

-- a name was there already
pub note-had : (name cs : List ℕ) (names : List (List ℕ)) (old : List ℕ → Option ℕ)
    → ((q : List ℕ) → old q ≡ place_of q names) → is_some (old name) ≡ true → old cs ≡ place_of cs (names ++ name ∷ [])
note-had name cs names old finds had =
    let some : bytes_eq name cs ≡ true → is_some (place_of cs names) ≡ true =
    λ same. subst (λ (q : List ℕ). is_some (place_of q names) ≡ true) ((bytes_eq-Decides name cs).0 same) (ap is_some (sym (finds name)) ∙ had) in
    finds cs ∙ had-found (place_of cs names) (length names) (bytes_eq name cs) some ∙ sym (position-push (λ other. bytes_eq other cs) names name)

-- one more element of a list that a function goes over
pub map-take-one : {X Y : Type 0} (f : X → Y) (xs : List X) (at : ℕ) (x : X) → at < length xs → x ≡ get_or xs at x
    → map f (take (at + 1) xs) ≡ map f (take at xs) ++ f x ∷ []
map-take-one f xs at x less is = rw (add-one, take-suc xs at x less, map-append, ← is) refl

pub length-map-take : {X Y : Type 0} (f : X → Y) (xs : List X) (at : ℕ) → at < length xs → length (map f (take at xs)) ≡ at
length-map-take f xs at less = length-map (take at xs) f ∙ length-take-le at xs (omega (arith, less))

pub none-found : {X : Type 0} (o : Option X) → is_some o ≡ false → o ≡ None
none-found None h = refl
none-found (Some x) h = let no : true ≡ false = h in cc

-- a loop over elements noted the name of the next one
pub names-step : {X : Type 0} (f : X → List ℕ) (xs : List X) (at : ℕ) (x : X) (name : List ℕ) (old new : BTreeMap (Bor (List ℕ)) ℕ) → at < length xs
    → x ≡ get_or xs at x → name ≡ f x → FindsPlaces old (map f (take at xs))
    → ((names : List (List ℕ)) → length names ≡ at → FindsPlaces old names → FindsPlaces new (names ++ name ∷ []))
    → FindsPlaces new (map f (take (at + 1) xs))
names-step f xs at x name old new less is named finds step =
    subst (λ (names : List (List ℕ)). FindsPlaces new names) (ap (λ n. map f (take at xs) ++ n ∷ []) named ∙ sym (map-take-one f xs at x less is))
    (step (map f (take at xs)) (length-map-take f xs at less) finds)
