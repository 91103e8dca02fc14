use Rattle.std.proofs.Common.{◌≡◌, ℕ, zero, suc, ◌/◌, ◌%◌, ◌<◌, false, [], ◌∷◌, ◌++◌, refl, arith}
use Rattle.std.specs.Prelude.{slice_index}
use Rattle.std.specs.Fmt.{digits, digit_glyph}
use Rattle.std.proofs.lemmas.Fmt.{hex_one_digit}
use Rattle.hex.specs.Hex.{lower_digits, encode_with, encode_lower}

-- what holds of each value of a digit
cases_16 : (P : ℕ → Type 0) → P 0 → P 1 → P 2 → P 3 → P 4 → P 5 → P 6 → P 7 → P 8 → P 9 → P 10 → P 11 → P 12 → P 13 → P 14 → P 15 → (n : ℕ) → n < 16 → P n
cases_16 P a b c d e f g h i j k l m n o p zero less = a
cases_16 P a b c d e f g h i j k l m n o p (suc zero) less = b
cases_16 P a b c d e f g h i j k l m n o p (suc (suc zero)) less = c
cases_16 P a b c d e f g h i j k l m n o p (suc (suc (suc zero))) less = d
cases_16 P a b c d e f g h i j k l m n o p (suc (suc (suc (suc zero)))) less = e
cases_16 P a b c d e f g h i j k l m n o p (suc (suc (suc (suc (suc zero))))) less = f
cases_16 P a b c d e f g h i j k l m n o p (suc (suc (suc (suc (suc (suc zero)))))) less = g
cases_16 P a b c d e f g h i j k l m n o p (suc (suc (suc (suc (suc (suc (suc zero))))))) less = h
cases_16 P a b c d e f g h i j k l m n o p (suc (suc (suc (suc (suc (suc (suc (suc zero)))))))) less = i
cases_16 P a b c d e f g h i j k l m n o p (suc (suc (suc (suc (suc (suc (suc (suc (suc zero))))))))) less = j
cases_16 P a b c d e f g h i j k l m n o p (suc (suc (suc (suc (suc (suc (suc (suc (suc (suc zero)))))))))) less = k
cases_16 P a b c d e f g h i j k l m n o p (suc (suc (suc (suc (suc (suc (suc (suc (suc (suc (suc zero))))))))))) less = l
cases_16 P a b c d e f g h i j k l m n o p (suc (suc (suc (suc (suc (suc (suc (suc (suc (suc (suc (suc zero)))))))))))) less = m
cases_16 P a b c d e f g h i j k l m n o p (suc (suc (suc (suc (suc (suc (suc (suc (suc (suc (suc (suc (suc zero))))))))))))) less = n
cases_16 P a b c d e f g h i j k l m n o p (suc (suc (suc (suc (suc (suc (suc (suc (suc (suc (suc (suc (suc (suc zero)))))))))))))) less = o
cases_16 P a b c d e f g h i j k l m n o p (suc (suc (suc (suc (suc (suc (suc (suc (suc (suc (suc (suc (suc (suc (suc zero))))))))))))))) less = p
cases_16 P a b c d e f g h i j k l m n o p (suc (suc (suc (suc (suc (suc (suc (suc (suc (suc (suc (suc (suc (suc (suc (suc x)))))))))))))))) less = absurd (omega arith)

-- the digit of a value
digit_is : (n : ℕ) → n < 16 → digit_glyph false n ≡ slice_index lower_digits n
digit_is n h = cases_16 (λ k. digit_glyph false k ≡ slice_index lower_digits k) refl refl refl refl refl refl refl refl refl refl refl refl refl refl refl refl n h

-- a byte as two digits
pub two_digits : (b : ℕ) → b < 256 → digits 16 false (b / 16) ++ digits 16 false (b % 16) ≡ encode_lower (b ∷ [])
unfolding encode_with
two_digits b h =
    rw (hex_one_digit false (b / 16) (omega arith), hex_one_digit false (b % 16) (omega arith), digit_is (b / 16) (omega arith), digit_is (b % 16) (omega arith)) refl
