use Rattle.std.proofs.Common.{◌≡◌, refl, sym, ◌∙◌, ap, ℕ, ◌+◌, ◌-◌, ◌≤◌, ◌==◌, Bool, true, false, Option, Some, None, List, [], ◌∷◌, length, drop, slice_get, arith}
use Rattle.std.specs.Prelude.{if◌then◌else◌}
use Rattle.std.specs.Option.{option_map}
use Rattle.std.proofs.lemmas.List.{drop_all}
use Rattle.pictures.specs.PlayPicture.Pairs.{place_of_nth}
use Rattle.pictures.proofs.PlayPicture.DrawLemmas.{drop_at}

pub hit : {T : Type 0} (p : T → Bool) (n : ℕ) (x : T) (xs : List T) → p x ≡ true → (n == 0) ≡ true → place_of_nth p n (x ∷ xs) ≡ Some 0
hit p n x xs h e = rw (h, e) refl

pub counted : {T : Type 0} (p : T → Bool) (n : ℕ) (x : T) (xs : List T) → p x ≡ true → (n == 0) ≡ false → place_of_nth p n (x ∷ xs) ≡ option_map (λ k. k + 1) (place_of_nth p (n - 1) xs)
counted p n x xs h e = rw (h, e) refl

pub skipped : {T : Type 0} (p : T → Bool) (n : ℕ) (x : T) (xs : List T) → p x ≡ false → place_of_nth p n (x ∷ xs) ≡ option_map (λ k. k + 1) (place_of_nth p n xs)
skipped p n x xs h = rw h refl

shifted : (k : ℕ) (o : Option ℕ) → option_map (λ j. j + k) (option_map (λ j. j + 1) o) ≡ option_map (λ j. j + (k + 1)) o
shifted k None = refl
shifted k (Some j) = let e : (j + 1) + k ≡ j + (k + 1) = omega arith in ap Some e

-- what is looked for, as what is looked for behind a place
abbrev pub IsSought : {T : Type 0} → (T → Bool) → List T → ℕ → ℕ → ℕ → Type 0
IsSought p xs n k left = place_of_nth p n xs ≡ option_map (λ j. j + k) (place_of_nth p left (drop k xs))

pub place_found : {T : Type 0} (p : T → Bool) (xs : List T) (n k left : ℕ) (x : T) → slice_get xs k ≡ Some x → p x ≡ true → (left == 0) ≡ true
    → IsSought p xs n k left → Some k ≡ place_of_nth p n xs
place_found p xs n k left x at is zero so =
    let here : place_of_nth p left (drop k xs) ≡ Some 0 = ap (place_of_nth p left) (drop_at xs k x at) ∙ hit p left x (drop (k + 1) xs) is zero in
    let e : 0 + k ≡ k = omega arith in
    sym (so ∙ ap (option_map (λ j. j + k)) here ∙ ap Some e)

pub place_counted : {T : Type 0} (p : T → Bool) (xs : List T) (n k left : ℕ) (x : T) → slice_get xs k ≡ Some x → p x ≡ true → (left == 0) ≡ false
    → IsSought p xs n k left → IsSought p xs n (k + 1) (left - 1)
place_counted p xs n k left x at is some so =
    so ∙ ap (option_map (λ j. j + k)) (ap (place_of_nth p left) (drop_at xs k x at) ∙ counted p left x (drop (k + 1) xs) is some) ∙ shifted k (place_of_nth p (left - 1) (drop (k + 1) xs))

pub place_skipped : {T : Type 0} (p : T → Bool) (xs : List T) (n k left : ℕ) (x : T) → slice_get xs k ≡ Some x → p x ≡ false
    → IsSought p xs n k left → IsSought p xs n (k + 1) left
place_skipped p xs n k left x at isnt so =
    so ∙ ap (option_map (λ j. j + k)) (ap (place_of_nth p left) (drop_at xs k x at) ∙ skipped p left x (drop (k + 1) xs) isnt) ∙ shifted k (place_of_nth p left (drop (k + 1) xs))

pub place_none : {T : Type 0} (p : T → Bool) (xs : List T) (n k left : ℕ) → length xs ≤ k → IsSought p xs n k left → None ≡ place_of_nth p n xs
place_none p xs n k left past so = sym (so ∙ ap (λ l. option_map (λ j. j + k) (place_of_nth p left l)) (drop_all k xs past))
