use Rattle.std.proofs.Common.{◌≡◌, refl, sym, ◌∙◌, ap, ℕ, zero, suc, ◌+◌, ◌-◌, ◌/◌, ◌%◌, ◌^◌, ◌<◌, ◌≤◌, List, [], ◌∷◌, ◌++◌, append_assoc, arith}
use Rattle.std.proofs.lemmas.List.{append-nil}
use Rattle.wire_core.specs.Picks.{next_seed}
use Rattle.workload.specs.Draws.{moved, drawn}
use Rattle.workload.specs.Lines.{letters}
use Rattle.workload.specs.Generated.{numbered}

one_less : (n k : ℕ) → k < n → n - k ≡ suc (n - (k + 1))
one_less n k h = omega (arith, h)

-- one more text written: what is written and what is left stay the whole
pub written : (text : ℕ → ℕ → List ℕ) (n k x x' d : ℕ) (old new whole : List ℕ) → k < n → x' ≡ next_seed x → d ≡ next_seed x / 2 ^ 33
    → new ≡ old ++ text k d → old ++ numbered text k (drawn x (n - k)) ≡ whole
    → new ++ numbered text (k + 1) (drawn x' (n - (k + 1))) ≡ whole
unfolding numbered drawn
written text n k x x' d old new whole h moves draws is so =
    let rest = numbered text (k + 1) (drawn (next_seed x) (n - (k + 1))) in
    rw (moves, is, draws)
    (append_assoc old (text k (next_seed x / 2 ^ 33)) rest ∙ sym (ap (λ m. old ++ numbered text k (drawn x m)) (one_less n k h)) ∙ so)

-- one more letter pushed
pub pushed : (n k x x' d : ℕ) (old new whole : List ℕ) → k < n → x' ≡ next_seed x → d ≡ next_seed x / 2 ^ 33
    → new ≡ old ++ (97 + d % 26) ∷ [] → old ++ letters (drawn x (n - k)) ≡ whole
    → new ++ letters (drawn x' (n - (k + 1))) ≡ whole
unfolding drawn
pushed n k x x' d old new whole h moves draws is so =
    let rest = letters (drawn (next_seed x) (n - (k + 1))) in
    rw (moves, is, draws)
    (append_assoc old ((97 + next_seed x / 2 ^ 33 % 26) ∷ []) rest ∙ sym (ap (λ m. old ++ letters (drawn x m)) (one_less n k h)) ∙ so)

-- one draw less to go
pub moved_on : (n k x x' end : ℕ) → k < n → x' ≡ next_seed x → moved x (n - k) ≡ end → moved x' (n - (k + 1)) ≡ end
unfolding moved
moved_on n k x x' end h moves so = ap (λ y. moved y (n - (k + 1))) moves ∙ sym (ap (moved x) (one_less n k h)) ∙ so

-- draws behind draws
pub moved_more : (x m n : ℕ) → moved (moved x m) n ≡ moved x (m + n)
unfolding moved
moved_more x zero n =
    let e : n ≡ zero + n = omega arith in
    ap (moved x) e
moved_more x (suc m) n =
    let e : suc (m + n) ≡ suc m + n = omega arith in
    moved_more (next_seed x) m n ∙ ap (moved x) e

-- nothing is left
pub all_written : (text : ℕ → ℕ → List ℕ) (n k x : ℕ) (old whole : List ℕ) → n ≤ k → old ++ numbered text k (drawn x (n - k)) ≡ whole → old ≡ whole
unfolding numbered drawn
all_written text n k x old whole end so =
    let none : n - k ≡ 0 = omega (arith, end) in
    sym (append-nil old) ∙ sym (ap (λ m. old ++ numbered text k (drawn x m)) none) ∙ so

pub all_pushed : (n k x : ℕ) (old whole : List ℕ) → n ≤ k → old ++ letters (drawn x (n - k)) ≡ whole → old ≡ whole
unfolding drawn
all_pushed n k x old whole end so =
    let none : n - k ≡ 0 = omega (arith, end) in
    sym (append-nil old) ∙ sym (ap (λ m. old ++ letters (drawn x m)) none) ∙ so

pub all_moved : (n k x y : ℕ) → n ≤ k → moved x (n - k) ≡ y → x ≡ y
unfolding moved
all_moved n k x y end so =
    let none : n - k ≡ 0 = omega (arith, end) in
    sym (ap (moved x) none) ∙ so

-- texts written one behind another
pub then_two : (a b old new end : List ℕ) → new ≡ old ++ a → end ≡ new ++ b → end ≡ old ++ (a ++ b)
then_two a b old new end first second = second ∙ ap (λ w. w ++ b) first ∙ append_assoc old a b

pub then_three : (a b c old x y end : List ℕ) → x ≡ old ++ a → y ≡ x ++ b → end ≡ y ++ c → end ≡ old ++ (a ++ (b ++ c))
then_three a b c old x y end first second third =
    then_two a (b ++ c) old x end first (then_two b c x y end second third)

pub then_four : (a b c d old x y z end : List ℕ) → x ≡ old ++ a → y ≡ x ++ b → z ≡ y ++ c → end ≡ z ++ d → end ≡ old ++ (a ++ (b ++ (c ++ d)))
then_four a b c d old x y z end first second third fourth =
    then_two a (b ++ (c ++ d)) old x end first (then_three b c d x y z end second third fourth)

-- six texts, the first behind nothing
pub then_six : (a b c d e f old u v w x y end : List ℕ) → old ≡ [] → u ≡ old ++ a → v ≡ u ++ b → w ≡ v ++ c → x ≡ w ++ d → y ≡ x ++ e → end ≡ y ++ f
    → end ≡ a ++ (b ++ (c ++ (d ++ (e ++ f))))
then_six a b c d e f old u v w x y end none first second third fourth fifth sixth =
    then_three a b (c ++ (d ++ (e ++ f))) old u v end first second (then_four c d e f v w x y end third fourth fifth sixth)
    ∙ ap (λ o. o ++ (a ++ (b ++ (c ++ (d ++ (e ++ f)))))) none

-- x after draws behind draws
pub behind : (n m k x : ℕ) → x ≡ moved n m → moved x k ≡ moved n (m + k)
behind n m k x is = ap (λ y. moved y k) is ∙ moved_more n m k

-- before the first draw
pub begin : (n : ℕ) → n ≡ moved n 0
unfolding moved
begin n = refl
