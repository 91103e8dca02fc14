use Rattle.std.proofs.Common.{◌≡◌, ℕ, suc, ◌+◌, ◌*◌, ◌/◌, ◌<◌, ◌≤◌, ◌⊎◌, Bool, true, false, cond, not, leb, ltb, eqb, ◌&&◌, take, drop, List, [], ◌∷◌, length, Option, Some, None, Result, Ok, Err, refl, inl, inr, ap, sym, ◌∙◌, arith}
use Rattle.std.specs.Option.{option_and_then}
use Rattle.std.specs.Result.{result_ok, MatchResult}
use Rattle.std.specs.List.{slice_split, onto_first, position_or_len, position}
use Rattle.std.proofs.lemmas.Bool.{ltb-true, ltb-false, lt-leb, le-leb, eq-eqb, cases_Bool}
use Rattle.std.proofs.lemmas.List.Splits.{slice_split_first}
use Rattle.hex.specs.declared.error.FromHexError.{FromHexError}
use Rattle.hex.specs.Hex.{decode_of, decode_sized}
use Rattle.hex.proofs.HexLemmas.{decode_of-ok}
use Rattle.line_text.specs.Texts.{parts_of, digits_meaning}
use Rattle.i2c_text.specs.Texts.{bytes_of}
use Rattle.line_text.proofs.Pieces.{result_ok-some, digits_length, written_ok, written_err, half_sized}

-- bytes, where there are 1 to 32
abbrev few : Option (List ℕ) → Option (List ℕ)
few bytes = option_and_then (λ (b : List ℕ). cond (leb 1 (length b) && leb (length b) 32) (Some b) None) bytes

few_none : (m : Option (List ℕ)) → ((bytes : List ℕ) → m ≡ Some bytes → (length bytes < 1) ⊎ (32 < length bytes)) → few m ≡ None
few_none None h = refl
few_none (Some bytes) h = elim (h bytes refl) [
  | inl none ↦ too_few bytes none
  | inr many ↦ too_many bytes many
]
  where
    too_few : (bytes : List ℕ) → length bytes < 1 → cond (leb 1 (length bytes) && leb (length bytes) 32) (Some bytes) None ≡ None
    too_few [] h = refl
    too_few (x ∷ xs) h = absurd (omega arith)

    too_many : (bytes : List ℕ) → 32 < length bytes → cond (leb 1 (length bytes) && leb (length bytes) 32) (Some bytes) None ≡ None
    too_many [] h = absurd (omega arith)
    too_many (x ∷ xs) h = rw (le-leb 1 (length (x ∷ xs)) (omega arith), lt-leb (length (x ∷ xs)) 32 h) refl

-- a word of no digits, or of too many
pub no_bytes : (word : List ℕ) → (length word ≡ 0) ⊎ (32 < length word / 2) → bytes_of word ≡ None
unfolding bytes_of
no_bytes word h = few_none (digits_meaning word) (λ bytes is.
    let twice = digits_length word bytes is in
    elim h [
      | inl none ↦ inl (omega arith)
      | inr many ↦ inr (omega arith)
    ])

few_some : (bytes : List ℕ) → 1 ≤ length bytes → length bytes ≤ 32 → few (Some bytes) ≡ Some bytes
few_some bytes some most = rw (le-leb 1 (length bytes) some, le-leb (length bytes) 32 most) refl

-- what was written where reading went well
pub bytes_read : (word out : List ℕ) (n : ℕ) (r : Result (Unit {0}) FromHexError) (u : Unit {0}) → n ≡ length word / 2 → (length word ≡ 0 → ⊥) → length word / 2 ≤ 32 → r ≡ Ok u
    → MatchResult (decode_sized word n) (λ bytes. (r ≡ Ok tt) × (out ≡ bytes)) (λ e. r ≡ Err e) → bytes_of word ≡ Some out
unfolding bytes_of
bytes_read word out n r u half some most is w =
    let decoded : decode_of word ≡ Ok out = sym (half_sized word n half) ∙ written_ok (decode_sized word n) out r u is w in
    let meant : digits_meaning word ≡ Some out = ap result_ok decoded in
    let twice = digits_length word out meant in
    ap few meant ∙ few_some out (omega arith) (omega arith)

-- what couldn't be read
pub bytes_refused : (word out : List ℕ) (n : ℕ) (r : Result (Unit {0}) FromHexError) (f : FromHexError) → n ≡ length word / 2 → r ≡ Err f
    → MatchResult (decode_sized word n) (λ bytes. (r ≡ Ok tt) × (out ≡ bytes)) (λ e. r ≡ Err e) → bytes_of word ≡ None
unfolding bytes_of
bytes_refused word out n r f half is w =
    ap few (ap result_ok (sym (half_sized word n half)) ∙ written_err (decode_sized word n) out r f is w)
