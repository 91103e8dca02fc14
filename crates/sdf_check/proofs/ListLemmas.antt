use Rattle.std.proofs.Common.{◌≡◌, ℕ, ◌+◌, ◌-◌, ◌<◌, ◌≤◌, List, ◌++◌, length, Some, refl, sym, ◌∙◌, ap, arith, length-append, get_or, ⊎_elim, ◌⊎◌, inl, inr}
use Rattle.std.specs.List.{slice_get}
use Rattle.std.proofs.lemmas.Bool.{cases_lt}
use Rattle.std.proofs.lemmas.Option.{slice_get-get_or, get_or_from_slice_get, slice_get_within}
use Rattle.std.proofs.lemmas.List.{get_or_append_left, get_or-append_right}

-- a place of the first of two lists
pub get-left : {X : Type 0} (xs ys : List X) (k : ℕ) (x : X) → slice_get xs k ≡ Some x → slice_get (xs ++ ys) k ≡ Some x
get-left xs ys k x is =
    let less : k < length xs = slice_get_within xs k x is in
    let more : k < length (xs ++ ys) = rw length-append (omega (arith, less)) in
    slice_get-get_or (xs ++ ys) k x more ∙ ap Some (get_or_append_left xs ys x k less ∙ get_or_from_slice_get xs k x x is)

-- a place of the second
pub get-right : {X : Type 0} (xs ys : List X) (k : ℕ) (x : X) → slice_get ys k ≡ Some x → slice_get (xs ++ ys) (length xs + k) ≡ Some x
get-right xs ys k x is =
    let less : k < length ys = slice_get_within ys k x is in
    let more : length xs + k < length (xs ++ ys) = rw length-append (omega (arith, less)) in
    let le : length xs ≤ length xs + k = omega arith in
    let back : length xs + k - length xs ≡ k = omega arith in
    slice_get-get_or (xs ++ ys) (length xs + k) x more ∙ ap Some (get_or-append_right xs ys (length xs) (length xs + k) x refl le ∙ ap (λ n. get_or ys n x) back ∙ get_or_from_slice_get ys k x x is)

-- a place of two lists is one of the first or of the second
pub get-either : {X : Type 0} (xs ys : List X) (k : ℕ) (x : X) → slice_get (xs ++ ys) k ≡ Some x
    → (slice_get xs k ≡ Some x) ⊎ ((length xs ≤ k) × (slice_get ys (k - length xs) ≡ Some x))
get-either xs ys k x is =
    let within : k < length (xs ++ ys) = slice_get_within (xs ++ ys) k x is in
    let fits : k < length xs + length ys = rw (← length-append xs ys) within in
    let here : get_or (xs ++ ys) k x ≡ x = get_or_from_slice_get (xs ++ ys) k x x is in
    ⊎_elim (λ (less : k < length xs). inl (slice_get-get_or xs k x less ∙ ap Some (sym (get_or_append_left xs ys x k less) ∙ here)))
    (λ (more : length xs ≤ k).
    let less : k - length xs < length ys = omega (arith, more, fits) in
    inr (more, slice_get-get_or ys (k - length xs) x less ∙ ap Some (sym (get_or-append_right xs ys (length xs) k x refl more) ∙ here))) (cases_lt k (length xs))
