use Rattle.std.proofs.Common.{◌≡◌, ℕ, ◌+◌, ◌-◌, ◌*◌, ◌^◌, ◌<◌, ◌≤◌, true, false, List, [], ◌∷◌, length, get_or, drop, suc, drop-cons, sym, ◌∙◌, ap, Some, None, fold, refl, arith}
use Rattle.std.proofs.lemmas.List.{drop_all}
use Rattle.line_text.specs.Texts.{is_number, number_of, decimal_value}
use Rattle.line_text.specs.Reading.{IsNoneOrHuge}

-- what a digit makes of the number before it
abbrev pub with_digit : ℕ → ℕ → ℕ
with_digit n c = 10 * n + (c - 48)

-- more digits make no smaller number
pub fold_grows : (n : ℕ) (word : List ℕ) → n ≤ fold with_digit n word
fold_grows n [] = omega arith
fold_grows n (c ∷ word) = let h = fold_grows (with_digit n c) word in omega arith

pub number_of_none : (word : List ℕ) → is_number word ≡ false → number_of word ≡ None
unfolding number_of
number_of_none word h = rw h refl

pub number_of_some : (word : List ℕ) → is_number word ≡ true → number_of word ≡ Some (decimal_value word)
unfolding number_of
number_of_some word h = rw h refl

pub no_number : (word : List ℕ) → is_number word ≡ false → IsNoneOrHuge (number_of word)
no_number word h n e = let none = number_of_none word h in cc

pub huge_number : (word : List ℕ) → is_number word ≡ true → 2 ^ 64 ≤ decimal_value word → IsNoneOrHuge (number_of word)
huge_number word h big n e =
    let some = number_of_some word h in
    let same : decimal_value word ≡ n = cc in
    omega arith

-- a digit with which the number is too large
pub huge_digits : (word : List ℕ) (i value c : ℕ) → is_number word ≡ true → i < length word → fold with_digit value (drop i word) ≡ decimal_value word
    → c ≡ get_or word i 0 → (with_digit value c < 2 ^ 64 → ⊥) → IsNoneOrHuge (number_of word)
huge_digits word i value c number inside sofar here large =
    let split : drop i word ≡ get_or word i 0 ∷ drop (suc i) word = drop-cons word i 0 inside in
    let all : fold with_digit (with_digit value c) (drop (suc i) word) ≡ decimal_value word = rw (here, ← ap (fold with_digit value) split) sofar in
    huge_number word number (let grows = fold_grows (with_digit value c) (drop (suc i) word) in omega (arith, large))

-- all digits were read
pub read_all : (word : List ℕ) (i value : ℕ) → is_number word ≡ true → length word ≤ i → fold with_digit value (drop i word) ≡ decimal_value word → number_of word ≡ Some value
read_all word i value number end sofar =
    let none : drop i word ≡ [] = drop_all i word end in
    number_of_some word number ∙ ap (λ (n : ℕ). Some n) (sym (rw none at sofar))
