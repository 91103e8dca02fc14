use Rattle.std.proofs.Common.{◌≡◌, ℕ, ◌+◌, ◌-◌, ◌<◌, ◌^◌, ◌==◌, Bool, true, false, not, List, [], ◌∷◌, ◌++◌, length, drop, get_or, inl, inr, refl, sym, ◌∙◌, ap, arith, add-one, append_assoc, drop-cons, length-drop}
use Rattle.std.proofs.lemmas.Bool.{cases_Bool, eqb-true}
use Rattle.std.proofs.lemmas.Fmt.{digits_is_IsNumeral, decimal_is_IsNumeral}
use Rattle.std.specs.Fmt.{digits, decimal}
use Rattle.std.specs.Char.{digit_value}
use Rattle.std.specs.Str.Parse.{AllDigits, digits_value}
use Rattle.export_text.specs.Numbers.{ends_group, digit_text, grouped, hex_text, plain_digits, hex_value, decimal_value}

-- a digit is no underscore
no-underscore : (d : ℕ) → digit_value d < 16 → (d == 95) ≡ false
no-underscore d small = elim (cases_Bool (d == 95)) [
  | inl e ↦ (let wrong = rw (eqb-true d 95 e) at small in absurd (omega (arith, wrong)))
  | inr e ↦ e
]

-- of a digit and the underscore behind it the digit is left
digit-kept : (left d : ℕ) (more : List ℕ) → (d == 95) ≡ false → plain_digits (digit_text left d ++ more) ≡ d ∷ plain_digits more
digit-kept left d more e = elim (cases_Bool (ends_group left)) [ inl g ↦ rw (g, e) refl | inr g ↦ rw (g, e) refl ]

plain-grouped : (ds : List ℕ) → AllDigits 16 ds → plain_digits (grouped ds) ≡ ds
plain-grouped [] h = refl
plain-grouped (d ∷ ds) h = digit-kept (length ds) d (grouped ds) (no-underscore d h.0) ∙ ap (λ l. d ∷ l) (plain-grouped ds h.1)

-- an address is read as it is spelled
pub hex-read : (n : ℕ) → n < 2 ^ 64 → hex_value (hex_text n) ≡ n
hex-read n small =
    let spelled = digits_is_IsNumeral 16 false (omega arith) (omega arith) n (omega (arith, small)) in
    ap (λ l. digits_value 16 l) (plain-grouped (digits 16 false n) spelled.0.1) ∙ spelled.1

-- a decimal number is read as it is spelled
pub decimal-read : (n : ℕ) → n < 2 ^ 64 → decimal_value (decimal n) ≡ n
decimal-read n small = let spelled = decimal_is_IsNumeral n small in spelled.1

-- a loop writes the first of the digits that are left
pub grouped-step : (old new whole digits : List ℕ) (at : ℕ) → at < length digits
    → new ≡ old ++ digit_text (length digits - at - 1) (get_or digits at 0)
    → old ++ grouped (drop at digits) ≡ whole → new ++ grouped (drop (at + 1) digits) ≡ whole
grouped-step old new whole digits at less is was =
    let d = get_or digits at 0 in
    let behind : length (drop (at + 1) digits) ≡ length digits - at - 1 = rw (length-drop (at + 1) digits) (omega (arith, less)) in
    let here : drop at digits ≡ d ∷ drop (at + 1) digits = drop-cons digits at 0 less ∙ rw add-one refl in
    let first : grouped (drop at digits) ≡ digit_text (length digits - at - 1) d ++ grouped (drop (at + 1) digits) =
    ap (λ l. grouped l) here ∙ ap (λ n. digit_text n d ++ grouped (drop (at + 1) digits)) behind in
    ap (λ l. l ++ grouped (drop (at + 1) digits)) is
    ∙ append_assoc old (digit_text (length digits - at - 1) d) (grouped (drop (at + 1) digits))
    ∙ ap (λ l. old ++ l) (sym first) ∙ was
