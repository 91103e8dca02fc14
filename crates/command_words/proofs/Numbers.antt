use Rattle.std.proofs.Common.{◌≡◌, ◌≢◌, ℕ, zero, suc, ◌<◌, ◌^◌, List, [], ◌∷◌, length, get_or, Option, Result, Ok, Err, IfSome, IfNone, decimal, sym, ap, subst, ◌∙◌, arith}
use Rattle.std.specs.Str.Parse.{AllDigits, digits_value, ParsesUnsigned}
use Rattle.std.specs.Result.{result_ok}
use Rattle.std.proofs.lemmas.Str.Parse.{IsNumeralModel, numerals_by_value, tells_digits, parse_plain}
use Rattle.std.proofs.lemmas.Fmt.{decimal_digit, first_decimal, decimal-digits_value, parse-decimal}

own : IsNumeralModel (AllDigits 10) (digits_value 10)
own = numerals_by_value (AllDigits 10) tells_digits

-- 0 is one digit
nought : decimal 0 ≡ 48 ∷ []
nought = decimal_digit 0 (omega arith)

-- a decimal number has no sign
no-sign : (n : ℕ) → n < 2 ^ 64 → get_or (decimal n) 0 0 ≢ 43
no-sign zero small e = let f : 48 ≡ get_or (decimal 0) 0 0 = sym (ap (λ (w : List ℕ). get_or w 0 0) nought) in omega arith
no-sign (suc m) small e = let first = first_decimal (suc m) (omega arith) small in omega arith

-- a decimal number that begins with 0 has one digit
no-zero : (n : ℕ) → n < 2 ^ 64 → get_or (decimal n) 0 0 ≡ 48 → length (decimal n) ≡ 1
no-zero zero small e = ap length nought
no-zero (suc m) small e = let first = first_decimal (suc m) (omega arith) small in absurd (omega arith)

-- a word with a sign or a leading zero is no decimal number
pub not-plain : (word : List ℕ) → ((get_or word 0 0 ≢ 43) × (get_or word 0 0 ≡ 48 → length word ≡ 1) → ⊥) → (n : ℕ) → n < 2 ^ 64 → word ≢ decimal n
not-plain word bad n small e = bad ((λ sign. no-sign n small (sym (ap (λ w. get_or w 0 0) e) ∙ sign)), (λ lead. ap length e ∙ no-zero n small (sym (ap (λ w. get_or w 0 0) e) ∙ lead)))

module _ {E : Type 0} (word : List ℕ) (unsigned : get_or word 0 0 ≢ 43) (unpadded : get_or word 0 0 ≡ 48 → length word ≡ 1) where
  -- what is parsed of a word without a sign and without a leading zero is the number that it spells
  pub read-some : (r : Result ℕ E) (o : Option ℕ) → ParsesUnsigned 64 10 word r → o ≡ result_ok r → IfSome o (λ n. (word ≡ decimal n) × (n < 2 ^ 64))
  read-some (Ok n) o h e =
      let p = parse_plain own {E = E} 64 word (Ok n) h unsigned in
      let same : word ≡ decimal n = sym (decimal-digits_value own word p.0.0 p.0.1 unpadded p.0.2) ∙ ap (λ (m : ℕ). decimal m) (sym p.1) in
      let small : n < 2 ^ 64 = subst (λ m. m < 2 ^ 64) (sym p.1) p.0.2 in
      rw e (same, small)
  read-some (Err x) o h e = rw e tt

  -- a decimal number below 2 ^ 64 is parsed
  pub read-none : (r : Result ℕ E) (o : Option ℕ) → ParsesUnsigned 64 10 word r → o ≡ result_ok r → IfNone o ((n : ℕ) → n < 2 ^ 64 → word ≢ decimal n)
  read-none (Ok n) o h e = rw e tt
  read-none (Err x) o h e = rw e (λ n small s. let p : Err x ≡ Ok n = parse-decimal 64 n word (Err x) small small s h in cc)
