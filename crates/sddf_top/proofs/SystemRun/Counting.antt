-- Steps at places, counted place by place.
use Rattle.std.proofs.Common.{◌≡◌, ◌≤◌, ◌+◌, ℕ, zero, suc, Option, Some, None, List, [], ◌∷◌, refl, sym, ap, ◌∙◌, arith}
use Rattle.wire_core.specs.Marks.{sum_below}
use Rattle.spsc_queue.specs.Known.Ends.{EndIs}
use Rattle.seat_wires.specs.Places.{stands_at}
use Rattle.seat_wires.specs.Went.{end_steps, steps_of}

-- the first number apart
below_first : (f : ℕ → ℕ) (n : ℕ) → sum_below f (suc n) ≡ f 0 + sum_below (λ k. f (suc k)) n
below_first f zero = omega arith
below_first f (suc n) = let rest = below_first f n in omega (arith, rest)

none_below : (f : ℕ → ℕ) (n : ℕ) → ((k : ℕ) → f k ≡ 0) → sum_below f n ≡ 0
none_below f zero none = refl
none_below f (suc n) none = let rest = none_below f n none in let here = none n in omega (arith, rest, here)

-- where no end stands from a number on, the steps of all ends are those at the places below
pub steps_below : (es : List (Option EndIs)) (many : ℕ) → ((n : ℕ) → many ≤ n → stands_at es n ≡ None) → steps_of es ≡ sum_below (λ n. end_steps (stands_at es n)) many
steps_below [] many none = sym (none_below (λ n. end_steps (stands_at {X = EndIs} [] n)) many (λ k. refl))
steps_below (e ∷ es) zero none =
    let here : end_steps e ≡ 0 = ap end_steps (none 0 (omega arith)) in
    let rest = steps_below es zero (λ n le. none (suc n) (omega arith)) in omega (arith, here, rest)
steps_below (e ∷ es) (suc many) none =
    let rest = steps_below es many (λ n le. none (suc n) (omega (arith, le))) in
    omega (arith, rest, below_first (λ n. end_steps (stands_at (e ∷ es) n)) many)
