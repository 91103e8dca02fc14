use Rattle.std.proofs.Common.{◌≡◌, ℕ, suc, ◌+◌, ◌-◌, ◌*◌, ◌/◌, ◌<◌, ◌≤◌, Bool, true, false, cond, not, leb, ltb, eqb, ◌&&◌, take, drop, List, [], ◌∷◌, ◌++◌, length, get_or, replicate, Option, Some, None, Result, Ok, Err, refl, inl, inr, ◌⊎◌, ap, sym, ◌∙◌, arith, length-append, append_assoc}
use Rattle.std.specs.Option.{option_map, option_and_then}
use Rattle.std.specs.Result.{result_ok}
use Rattle.std.specs.List.{slice_split, onto_first, position_or_len, position}
use Rattle.std.proofs.lemmas.Bool.{ltb-true, ltb-false, leb-true, le-leb, eqb-true, eq-eqb, cases_Bool}
use Rattle.std.proofs.lemmas.List.{length-replicate}
use Rattle.std.proofs.lemmas.List.Splits.{slice_split_first}
use Rattle.std.specs.Result.{MatchResult}
use Rattle.hex.specs.declared.error.FromHexError.{FromHexError}
use Rattle.hex.specs.Hex.{decode_of, decode_sized}
use Rattle.hex.proofs.HexLemmas.{decode_of-ok, decode_sized-twice, decode_sized-ok}
use Rattle.line_text.specs.Texts.{parts_of, number_of, digits_meaning}
use Rattle.line_text.specs.Data.{repeated, piece_of, piece_meaning}
use Rattle.line_text.specs.Reading.{IsTaken}
use Rattle.line_text.proofs.Pieces.{parts_cons, result_ok-some, digits_length, written_ok, half_sized}

and_both : (a b : Bool) → (a && b) ≡ true → (a ≡ true) × (b ≡ true)
and_both true b h = (refl, h)
and_both false b h = cc

pub if_some : {T : Type 0} (b : Bool) (m : Option T) (x : T) → cond b m None ≡ Some x → (b ≡ true) × (m ≡ Some x)
if_some true m x h = (refl, h)
if_some false m x h = cc

pub if_not_some : {T : Type 0} (b : Bool) (m : Option T) (x : T) → cond b None m ≡ Some x → (b ≡ false) × (m ≡ Some x)
if_not_some true m x h = cc
if_not_some false m x h = (refl, h)

-- what a repetition is made of
abbrev repetition : Option ℕ → ℕ → Option (List ℕ) → Option (List ℕ)
repetition count long digits =
    option_and_then (λ n. cond (leb 1 n && eqb long 2) (option_map (λ bytes. replicate n (get_or bytes 0 0)) digits) None) count

pub record IsRepetition (count : Option ℕ) (long : ℕ) (digits : Option (List ℕ)) (bytes : List ℕ) : Type 0 where
  pub n : ℕ
  pub byte : List ℕ
  pub counted : count ≡ Some n
  pub some : 1 ≤ n
  pub two : long ≡ 2
  pub decoded : digits ≡ Some byte
  pub long_is : length bytes ≡ n

repetition_is : (count : Option ℕ) (long : ℕ) (digits : Option (List ℕ)) (bytes : List ℕ) → repetition count long digits ≡ Some bytes → IsRepetition count long digits bytes
repetition_is None long digits bytes h = cc
repetition_is (Some n) long None bytes h = let parts = if_some _ None bytes h in cc parts.1
repetition_is (Some n) long (Some byte) bytes h =
    let parts = if_some (leb 1 n && eqb long 2) (Some (replicate n (get_or byte 0 0))) bytes h in
    let tests = and_both (leb 1 n) (eqb long 2) parts.0 in
    let same : replicate n (get_or byte 0 0) ≡ bytes = cc in
    record {
      n = n;
      byte = byte;
      counted = refl;
      some = leb-true 1 n tests.0;
      two = eqb-true long 2 tests.1;
      decoded = refl;
      long_is = sym (ap length same) ∙ length-replicate {A = ℕ} n (get_or byte 0 0);
    }

pub repeated_is : (count digits bytes : List ℕ) → repeated count digits ≡ Some bytes → IsRepetition (number_of count) (length digits) (digits_meaning digits) bytes
repeated_is count digits bytes h = repetition_is (number_of count) (length digits) (digits_meaning digits) bytes h

repetition_gives : (n : ℕ) (long : ℕ) (byte : List ℕ) → 1 ≤ n → long ≡ 2 → repetition (Some n) long (Some byte) ≡ Some (replicate n (get_or byte 0 0))
repetition_gives n long byte some two = rw (le-leb 1 n some, two) refl

pub repeated_gives : (count digits : List ℕ) (n : ℕ) (byte : List ℕ) → number_of count ≡ Some n → 1 ≤ n → decode_sized digits 1 ≡ Ok byte
    → repeated count digits ≡ Some (replicate n (get_or byte 0 0))
repeated_gives count digits n byte counted some decoded =
    let two : length digits ≡ 2 = decode_sized-ok digits 1 byte decoded in
    let plain : decode_of digits ≡ Ok byte = sym (decode_sized-twice digits 1 two) ∙ decoded in
    let spelled : digits_meaning digits ≡ Some byte = ap result_ok plain in
    ap (λ count. repetition count (length digits) (digits_meaning digits)) counted ∙ ap (λ digits'. repetition (Some n) (length digits) digits') spelled
    ∙ repetition_gives n (length digits) byte some two

-- a digit pair that isn't read is none
pub repeated_refused : (count digits : List ℕ) (e : Rattle.hex.specs.declared.error.FromHexError.FromHexError) → decode_sized digits 1 ≡ Err e → (bytes : List ℕ) → repeated count digits ≡ Some bytes → ⊥
repeated_refused count digits e h bytes is =
    let parts = repeated_is count digits bytes is in
    let plain = decode_sized-twice digits 1 parts.two in
    let decoded = result_ok-some (decode_of digits) parts.byte parts.decoded in
    cc

pub piece_of_digits : (piece : List ℕ) → parts_of 42 piece ≡ piece ∷ [] → piece_of piece ≡ cond (eqb (length piece) 0) None (digits_meaning piece)
unfolding piece_of
piece_of_digits piece h = rw h refl

pub piece_of_repeated : (piece count digits : List ℕ) → parts_of 42 piece ≡ count ∷ parts_of 42 digits → piece_of piece ≡ piece_meaning (count ∷ parts_of 42 digits)
unfolding piece_of
piece_of_repeated piece count digits h = rw h refl

pub three_parts : (count digits a b : List ℕ) → parts_of 42 digits ≡ a ∷ parts_of 42 b → piece_meaning (count ∷ parts_of 42 digits) ≡ None
three_parts count digits a b h =
    let c = parts_cons (λ x. eqb x 42) b in
    rw (h, c.2) refl

-- what was read so far, with what the other pieces stand for
abbrev pub with_rest : List ℕ → Option (List ℕ) → Option (List ℕ)
with_rest «data» rest = option_map (λ more. «data» ++ more) rest

abbrev pub piece_first : Option (List ℕ) → Option (List ℕ) → Option (List ℕ)
piece_first piece rest = option_and_then (λ bytes. option_map (λ more. bytes ++ more) rest) piece

pub with_rest_none : (rest : Option (List ℕ)) → with_rest [] rest ≡ rest
with_rest_none None = refl
with_rest_none (Some more) = refl

pub with_rest_more : («data» bytes : List ℕ) (piece rest : Option (List ℕ)) → piece ≡ Some bytes → with_rest («data» ++ bytes) rest ≡ with_rest «data» (piece_first piece rest)
with_rest_more «data» bytes piece None h = rw h refl
with_rest_more «data» bytes piece (Some more) h = rw h (ap (λ (all : List ℕ). Some all) (append_assoc «data» bytes more))

pub with_rest_long : («data» : List ℕ) (most : ℕ) (piece rest : Option (List ℕ)) → ((bytes : List ℕ) → piece ≡ Some bytes → most < length «data» + length bytes)
    → (all : List ℕ) → with_rest «data» (piece_first piece rest) ≡ Some all → most < length all
with_rest_long «data» most None rest long all h = cc
with_rest_long «data» most (Some bytes) None long all h = cc
with_rest_long «data» most (Some bytes) (Some more) long all h =
    let same : «data» ++ (bytes ++ more) ≡ all = cc in
    let lengths = ap length same in
    omega (arith, long bytes refl, length-append «data» (bytes ++ more), length-append bytes more)

-- what was written where reading into room for their half went well
pub half_written : (digits out : List ℕ) (n : ℕ) (r : Result (Unit {0}) FromHexError) (u : Unit {0}) → n ≡ length digits / 2 → r ≡ Ok u
    → MatchResult (decode_sized digits n) (λ bytes. (r ≡ Ok tt) × (out ≡ bytes)) (λ e. r ≡ Err e) → decode_of digits ≡ Ok out
half_written digits out n r u h is w = sym (half_sized digits n h) ∙ written_ok (decode_sized digits n) out r u is w

-- digits that are more than there is room for
pub digits_too_long : (digits : List ℕ) (most sofar : ℕ) → most - sofar < length digits / 2 → sofar ≤ most
    → (bytes : List ℕ) → cond (eqb (length digits) 0) None (digits_meaning digits) ≡ Some bytes → most < sofar + length bytes
digits_too_long digits most sofar long room bytes h =
    let parts = if_not_some (eqb (length digits) 0) (digits_meaning digits) bytes h in
    let twice = digits_length digits bytes parts.1 in
    omega arith

-- digits that were read, and fit
pub digits_taken : (digits «data» bytes : List ℕ) (most : ℕ) → eqb (length digits) 0 ≡ false → decode_of digits ≡ Ok bytes → length digits / 2 ≤ most - length «data» → length «data» ≤ most
    → IsTaken (cond (eqb (length digits) 0) None (digits_meaning digits)) «data» («data» ++ bytes) most true
digits_taken digits «data» bytes most some decoded fits room =
    let twice = digits_length digits bytes (ap result_ok decoded) in
    (bytes, rw some (ap result_ok decoded), refl, omega (arith, length-append «data» bytes))

-- a repetition that is more than there is room for
pub repetition_too_long : (count digits sofar : List ℕ) (most : ℕ) → ((n : ℕ) → number_of count ≡ Some n → 1 ≤ n → most < length sofar + n)
    → (bytes : List ℕ) → repeated count digits ≡ Some bytes → most < length sofar + length bytes
repetition_too_long count digits sofar most long bytes h =
    let parts = repeated_is count digits bytes h in
    let more = long parts.n parts.counted parts.some in
    omega (arith, parts.long_is)

-- the count is known, and too large or 0
pub counted_too_long : (count digits sofar : List ℕ) (most times : ℕ) → number_of count ≡ Some times → (times ≡ 0) ⊎ (most - length sofar < times) → length sofar ≤ most
    → (bytes : List ℕ) → repeated count digits ≡ Some bytes → most < length sofar + length bytes
counted_too_long count digits sofar most times counted bad room =
    repetition_too_long count digits sofar most (λ n is some. let same : times ≡ n = cc in elim bad [
      | inl none ↦ absurd (omega arith)
      | inr large ↦ omega arith
    ])

-- a repetition that was read, and fits
pub repetition_taken : (count digits sofar byte : List ℕ) (most n : ℕ) → number_of count ≡ Some n → 1 ≤ n → n ≤ most - length sofar → length sofar ≤ most
    → decode_sized digits 1 ≡ Ok byte → IsTaken (repeated count digits) sofar (sofar ++ replicate n (get_or byte 0 0)) most true
repetition_taken count digits sofar byte most n counted some fits room decoded = (
  replicate n (get_or byte 0 0),
  repeated_gives count digits n byte counted some decoded,
  refl,
  omega (arith, length-append sofar (replicate n (get_or byte 0 0)), length-replicate {A = ℕ} n (get_or byte 0 0)),
)

-- what stands after a `*` has another one
pub no_third_part : (count digits a b : List ℕ) → parts_of 42 digits ≡ a ∷ parts_of 42 b → (bytes : List ℕ) → piece_meaning (count ∷ parts_of 42 digits) ≡ Some bytes → ⊥
no_third_part count digits a b h bytes is = let none = three_parts count digits a b h in cc
