-- How many frames a switch took, and how many copies of them it owes at most.
use Rattle.std.proofs.Common.{◌≡◌, ◌==◌, ◌+◌, ◌*◌, ◌<◌, ◌≤◌, ℕ, zero, suc, Bool, true, false, cond, Some, List, [], ◌∷◌, length, map, slice_get, refl, sym, arith}
use Rattle.std.specs.List.{filter}
use Rattle.frame_core.specs.declared.mac.Mac.{Mac}
use Rattle.wire_core.specs.Bells.{bit}
use Rattle.wire_core.specs.Marks.{sum_below}
use Rattle.net_switch.specs.SwitchDesk.Frames.{Sent, goes_to, sent_to, entries_from}
use Rattle.switched_law.proofs.SwitchLaw.Going.{goes_own}
use Rattle.switched_law.proofs.SwitchMoment.Sums.{sum_both, sum_same, sum_none, sum_one, sum_but_one}

-- each of these came from a port below a number
abbrev pub AreWithin : ℕ → List Sent → Type 0
AreWithin n xs = (k : ℕ) (x : Sent) → slice_get xs k ≡ Some x → x.0 < n

rest_within : (n : ℕ) (x : Sent) (xs : List Sent) → AreWithin n (x ∷ xs) → AreWithin n xs
rest_within n x xs within k y at = within (suc k) y at

entries_more : (p : ℕ) (x : Sent) (xs : List Sent) → length (entries_from p (x ∷ xs)) ≡ bit (x.0 == p) + length (entries_from p xs)
entries_more p x xs = by (x.0 == p)
  where
    by : (b : Bool) → length (map (λ (y : Sent). y.1) (cond b (x ∷ filter (λ (y : Sent). y.0 == p) xs) (filter (λ (y : Sent). y.0 == p) xs))) ≡ bit b + length (entries_from p xs)
    by true = omega arith
    by false = omega arith

-- all entries are those of all ports together
pub all_parts : (n : ℕ) (xs : List Sent) → AreWithin n xs → length xs ≡ sum_below (λ p. length (entries_from p xs)) n
all_parts n [] within = sym (sum_none n)
all_parts n (x ∷ xs) within =
    let more = sum_same (λ p. length (entries_from p (x ∷ xs))) (λ p. bit (x.0 == p) + length (entries_from p xs)) n (λ p less. entries_more p x xs) in
    let both = sum_both (λ p. bit (x.0 == p)) (λ p. length (entries_from p xs)) n in
    let one = sum_one x.0 n (within 0 x refl) in
    let rest = all_parts n xs (rest_within n x xs within) in
    omega (arith, more, both, one, rest)

sent_more : (macs : List Mac) (p : ℕ) (x : Sent) (xs : List Sent) → length (sent_to macs p (x ∷ xs)) ≡ bit (goes_to macs p x) + length (sent_to macs p xs)
sent_more macs p x xs = by (goes_to macs p x)
  where
    by : (b : Bool) → length (cond b (x ∷ sent_to macs p xs) (sent_to macs p xs)) ≡ bit b + length (sent_to macs p xs)
    by true = omega arith
    by false = omega arith

times_suc : (n m : ℕ) → n * suc m ≡ n * m + n
times_suc n m = grind arith

-- each goes to all ports but one at most
pub all_copies : (macs : List Mac) (n : ℕ) (xs : List Sent) → AreWithin n xs → sum_below (λ p. length (sent_to macs p xs)) n + length xs ≤ n * length xs
all_copies macs n [] within = let none = sum_none n in omega (arith, none)
all_copies macs n (x ∷ xs) within =
    let more = sum_same (λ p. length (sent_to macs p (x ∷ xs))) (λ p. bit (goes_to macs p x) + length (sent_to macs p xs)) n (λ p less. sent_more macs p x xs) in
    let both = sum_both (λ p. bit (goes_to macs p x)) (λ p. length (sent_to macs p xs)) n in
    let one = sum_but_one (λ p. goes_to macs p x) x.0 n (within 0 x refl) (goes_own macs x.0 x refl) in
    let rest = all_copies macs n xs (rest_within n x xs within) in
    let times = times_suc n (length xs) in
    omega (arith, more, both, one, rest, times)

-- so many more of each
pub times_more : (n m d : ℕ) → n * (m + d) ≡ n * m + n * d
times_more n m d = grind arith

pub times_some : (n d : ℕ) → 0 < n → d ≤ n * d
times_some zero d some = absurd (omega (arith, some))
times_some (suc n) d some = let e : suc n * d ≡ n * d + d = grind arith in omega (arith, e)

pub times_two : (n m : ℕ) → 2 * n * m ≡ n * m + n * m
times_two n m = grind arith
