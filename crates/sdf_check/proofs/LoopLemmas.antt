use Rattle.std.proofs.Common.{◌≡◌, ◌↔◌, ℕ, ◌+◌, ◌-◌, ◌<◌, ◌≤◌, List, ◌++◌, length, map, get_or, Bool, true, false, IsTrue, Option, Some, None, inl, inr, ◌⊎◌, ⊎_elim, refl, sym, ◌∙◌, subst, arith, below_more}
use Rattle.std.specs.List.{slice_get}
use Rattle.std.specs.Option.{IsSomeAnd}
use Rattle.std.proofs.lemmas.Option.{slice_get-get_or, slice_get-map}
use Rattle.std.proofs.lemmas.List.{length-map}
use Rattle.sdf_check.specs.ClassRules.{SomeOf}
use Rattle.sdf_check.proofs.SoughtLemmas.{here-some, some-here}
use Rattle.sdf_check.proofs.UseLemmas.{some-within, item-at}
use Rattle.sdf_check.proofs.ListLemmas.{get-left, get-right, get-either}

-- what a loop over a list tells of one element: it has the property that is sought
pub found : {X : Type 0} (P : X → Type 0) (xs : List X) (at : ℕ) (d : X) → at < length xs → P (get_or xs at d) → IsTrue true ↔ SomeOf P xs
found P xs at d less h = (λ t. (at, here-some (slice_get xs at) (get_or xs at d) P (slice_get-get_or xs at d less) h), λ s. refl)

-- it doesn't
pub more : {X : Type 0} (P : X → Type 0) (xs : List X) (at : ℕ) (d : X) → at < length xs → (P (get_or xs at d) → ⊥)
    → ((k : ℕ) → k < at → IsSomeAnd (slice_get xs k) P → ⊥) → (k : ℕ) → k < at + 1 → IsSomeAnd (slice_get xs k) P → ⊥
more P xs at d less none before =
    below_more _ _ before (λ h. none (some-here (slice_get xs at) (get_or xs at d) P (slice_get-get_or xs at d less) h))

-- no element is left
pub none_left : {X : Type 0} (P : X → Type 0) (xs : List X) (at : ℕ) → length xs ≤ at → ((k : ℕ) → k < at → IsSomeAnd (slice_get xs k) P → ⊥) → IsTrue false ↔ SomeOf P xs
none_left P xs at past before =
    (λ t. let no : false ≡ true = t in cc, λ s. let within : s.0 < length xs = some-within xs s.0 P s.1 in absurd (before s.0 (omega (arith, within, past)) s.1))

-- the same of a list that a function goes over
pub at-map : {X Y : Type 0} (f : X → Y) (xs : List X) (at : ℕ) (d : X) → at < length xs → slice_get (map f xs) at ≡ Some (f (get_or xs at d))
at-map f xs at d less = slice_get-map f xs at ∙ rw (slice_get-get_or xs at d less) refl

pub found-map : {X Y : Type 0} (P : Y → Type 0) (f : X → Y) (xs : List X) (at : ℕ) (d : X) → at < length xs → P (f (get_or xs at d)) → IsTrue true ↔ SomeOf P (map f xs)
found-map P f xs at d less h = (λ t. (at, here-some (slice_get (map f xs) at) (f (get_or xs at d)) P (at-map f xs at d less) h), λ s. refl)

pub more-map : {X Y : Type 0} (P : Y → Type 0) (f : X → Y) (xs : List X) (at : ℕ) (d : X) → at < length xs → (P (f (get_or xs at d)) → ⊥)
    → ((k : ℕ) → k < at → IsSomeAnd (slice_get (map f xs) k) P → ⊥) → (k : ℕ) → k < at + 1 → IsSomeAnd (slice_get (map f xs) k) P → ⊥
more-map P f xs at d less none before =
    below_more _ _ before (λ h. none (some-here (slice_get (map f xs) at) (f (get_or xs at d)) P (at-map f xs at d less) h))

pub none_left-map : {X Y : Type 0} (P : Y → Type 0) (f : X → Y) (xs : List X) (at : ℕ) → length xs ≤ at
    → ((k : ℕ) → k < at → IsSomeAnd (slice_get (map f xs) k) P → ⊥) → IsTrue false ↔ SomeOf P (map f xs)
none_left-map P f xs at past before = none_left P (map f xs) at (rw length-map past) before

-- a test that answered no
pub not-so : {P : Type 0} (b : Bool) → (P → IsTrue b) → b ≡ false → P → ⊥
not-so b h e p = let no : false ≡ true = sym e ∙ h p in cc

-- the same where an item of the list is known
pub found-item : {X : Type 0} (P : X → Type 0) (all items : List X) (at : ℕ) (item : X) → items ≡ all → at < length items → item ≡ get_or items at item → P item
    → IsTrue true ↔ SomeOf P all
found-item P all items at item same less is h = (λ t. (at, here-some (slice_get all at) item P (item-at all items at item same less is) h), λ s. refl)

pub more-item : {X : Type 0} (P : X → Type 0) (all items : List X) (at : ℕ) (item : X) → items ≡ all → at < length items → item ≡ get_or items at item → (P item → ⊥)
    → ((k : ℕ) → k < at → IsSomeAnd (slice_get all k) P → ⊥) → (k : ℕ) → k < at + 1 → IsSomeAnd (slice_get all k) P → ⊥
more-item P all items at item same less is none before =
    below_more _ _ before (λ h. none (some-here (slice_get all at) item P (item-at all items at item same less is) h))

pub none_left-item : {X : Type 0} (P : X → Type 0) (all items : List X) (at : ℕ) → items ≡ all → length items ≤ at
    → ((k : ℕ) → k < at → IsSomeAnd (slice_get all k) P → ⊥) → IsTrue false ↔ SomeOf P all
none_left-item {X} P all items at same past before =
    none_left P all at (subst (λ (xs : List X). length xs ≤ at) same past) before

pub more-map-item : {X Y : Type 0} (P : Y → Type 0) (f : X → Y) (xs : List X) (at : ℕ) (item : X) → at < length xs → item ≡ get_or xs at item → (P (f item) → ⊥)
    → ((k : ℕ) → k < at → IsSomeAnd (slice_get (map f xs) k) P → ⊥) → (k : ℕ) → k < at + 1 → IsSomeAnd (slice_get (map f xs) k) P → ⊥
more-map-item P f xs at item less is none before =
    more-map P f xs at item less (λ h. none (subst (λ y. P (f y)) (sym is) h)) before

-- one of two lists
pub held : {X : Type 0} (o : Option X) (P : X → Type 0) → IsSomeAnd o P → (x : X) × (o ≡ Some x) × P x
held None P h = absurd h
held (Some x) P h = (x, refl, h)

pub some-append : {X : Type 0} (P : X → Type 0) (xs ys : List X) → (SomeOf P xs ⊎ SomeOf P ys) ↔ SomeOf P (xs ++ ys)
some-append P xs ys = (
  λ e. ⊎_elim
      (λ (s : SomeOf P xs). let h = held (slice_get xs s.0) P s.1 in (s.0, here-some (slice_get (xs ++ ys) s.0) h.0 P (get-left xs ys s.0 h.0 h.1) h.2))
      (λ (s : SomeOf P ys). let h = held (slice_get ys s.0) P s.1 in (length xs + s.0, here-some (slice_get (xs ++ ys) (length xs + s.0)) h.0 P (get-right xs ys s.0 h.0 h.1) h.2)) e,
  λ s.
      let h = held (slice_get (xs ++ ys) s.0) P s.1 in
      ⊎_elim (λ (left : slice_get xs s.0 ≡ Some h.0). inl (s.0, here-some (slice_get xs s.0) h.0 P left h.2))
      (λ (right : (length xs ≤ s.0) × (slice_get ys (s.0 - length xs) ≡ Some h.0)). inr (s.0 - length xs, here-some (slice_get ys (s.0 - length xs)) h.0 P right.1 h.2))
      (get-either xs ys s.0 h.0 h.1),
)

pub found-map-item : {X Y : Type 0} (P : Y → Type 0) (f : X → Y) (xs : List X) (at : ℕ) (item : X) → at < length xs → item ≡ get_or xs at item → P (f item)
    → IsTrue true ↔ SomeOf P (map f xs)
found-map-item P f xs at item less is h = found-map P f xs at item less (subst (λ y. P (f y)) is h)
