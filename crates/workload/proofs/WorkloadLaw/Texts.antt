-- Texts that a reader of traces cuts into words, numbers and bytes.
use Rattle.std.proofs.Common.{◌≡◌, refl, ap, sym, ◌∙◌, ℕ, zero, suc, ◌/◌, ◌%◌, ◌<◌, inl, inr, Bool, true, false, not, cond, eqb, ltb, List, [], ◌∷◌, ◌++◌, length, get_or, replicate, All, Some, None, codes, arith, append-nil}
use Rattle.std.specs.List.{list_all}
use Rattle.std.specs.Result.{result_ok}
use Rattle.std.proofs.lemmas.Bool.{and_parts, cases_Bool, eqb-true, ltb-true}
use Rattle.std.proofs.lemmas.List.Elements.{All-cons, All-head, All-nil, All-tail}
use Rattle.std.proofs.lemmas.List.Splits.{slice_split_at, slice_split_none}
use Rattle.hex.specs.Hex.{IsBytes, hex_digit_value, encode_lower, encode_with, lower_digits}
use Rattle.hex.proofs.HexLemmas.{decode_of-encode_lower, decode_sized-encode_lower, IsDigits-lower_digits, length-encode_with}
use Rattle.line_text.specs.Texts.{parts_of, words_of, number_of}
use Rattle.line_text.specs.Data.{repeated, piece_of, data_of}
use Rattle.line_text.proofs.Pieces.{not_equal}
use Rattle.line_text.proofs.DataPieces.{piece_of_digits, repeated_gives}

-- no byte of a text is this one
abbrev pub Lacks : ℕ → List ℕ → Type 0
Lacks v text = All (λ c. eqb c v ≡ false) text

not_true : (b : Bool) → not b ≡ true → b ≡ false
not_true true h = cc
not_true false h = refl

pub lacks : (v : ℕ) (text : List ℕ) → list_all (λ c. not (eqb c v)) text ≡ true → Lacks v text
lacks v [] h = All-nil (λ c. eqb c v ≡ false)
lacks v (c ∷ cs) h =
    let parts = and_parts (not (eqb c v)) (list_all (λ c. not (eqb c v)) cs) h in
    All-cons (λ c. eqb c v ≡ false) c cs (not_true (eqb c v) parts.0) (lacks v cs parts.1)

pub lacks_both : (v : ℕ) (a b : List ℕ) → Lacks v a → Lacks v b → Lacks v (a ++ b)
lacks_both v [] b h k = k
lacks_both v (c ∷ cs) b h k =
    All-cons (λ c. eqb c v ≡ false) c (cs ++ b) (All-head (λ c. eqb c v ≡ false) c cs h) (lacks_both v cs b (All-tail (λ c. eqb c v ≡ false) c cs h) k)

-- ---- bytes

pub bytes_none : IsBytes []
bytes_none i = omega arith

pub bytes_cons : (x : ℕ) (xs : List ℕ) → x < 256 → IsBytes xs → IsBytes (x ∷ xs)
bytes_cons x xs h rest zero = h
bytes_cons x xs h rest (suc i) = rest i

pub bytes_both : (a b : List ℕ) → IsBytes a → IsBytes b → IsBytes (a ++ b)
bytes_both [] b h k = k
bytes_both (x ∷ xs) b h k = bytes_cons x (xs ++ b) (h 0) (bytes_both xs b (λ i. h (suc i)) k)

pub bytes_replicate : (n v : ℕ) → v < 256 → IsBytes (replicate n v)
bytes_replicate zero v h = bytes_none
bytes_replicate (suc n) v h = bytes_cons v (replicate n v) h (bytes_replicate n v h)

pub bytes_all : (xs : List ℕ) → list_all (λ b. ltb b 256) xs ≡ true → IsBytes xs
bytes_all [] h = bytes_none
bytes_all (x ∷ xs) h =
    let parts = and_parts (ltb x 256) (list_all (λ b. ltb b 256) xs) h in
    bytes_cons x xs (ltb-true x 256 parts.0) (bytes_all xs parts.1)

pub bytes_if : (b : Bool) (x y : List ℕ) → IsBytes x → IsBytes y → IsBytes (cond b x y)
bytes_if true x y h k = h
bytes_if false x y h k = k

pub length_if : (b : Bool) (x y : List ℕ) (n : ℕ) → length x ≡ n → length y ≡ n → length (cond b x y) ≡ n
length_if true x y n h k = h
length_if false x y n h k = k

-- ---- hexadecimal digits

digit_lacks : (v d : ℕ) → hex_digit_value v ≡ None → d < 16 → eqb (get_or lower_digits d 0) v ≡ false
digit_lacks v d none small = elim (cases_Bool (eqb (get_or lower_digits d 0) v)) [
  | inl is ↦ absurd (let e = eqb-true (get_or lower_digits d 0) v is in let s = IsDigits-lower_digits d small in let o : hex_digit_value v ≡ Some d = sym (ap hex_digit_value e) ∙ s in cc (sym none ∙ o))
  | inr isnt ↦ isnt
]

pub hex_lacks : (v : ℕ) → hex_digit_value v ≡ None → (xs : List ℕ) → IsBytes xs → Lacks v (encode_lower xs)
unfolding encode_with
hex_lacks v none [] h = All-nil (λ c. eqb c v ≡ false)
hex_lacks v none (b ∷ rest) h =
    let byte = h 0 in
    All-cons (λ c. eqb c v ≡ false) (get_or lower_digits (b / 16) 0) (get_or lower_digits (b % 16) 0 ∷ encode_lower rest) (digit_lacks v (b / 16) none (omega (arith, byte)))
    (All-cons (λ c. eqb c v ≡ false) (get_or lower_digits (b % 16) 0) (encode_lower rest) (digit_lacks v (b % 16) none (omega arith)) (hex_lacks v none rest (λ i. h (suc i))))

-- ---- words

pub next_word : (a rest : List ℕ) → Lacks 32 a → words_of (a ++ 32 ∷ rest) ≡ a ∷ words_of rest
next_word a rest h = slice_split_at (λ b. eqb b 32) a 32 rest h refl

pub last_word : (a : List ℕ) → Lacks 32 a → words_of a ≡ a ∷ []
last_word a h = slice_split_none (λ b. eqb b 32) a h

-- ---- DATA

hex_some : (xs : List ℕ) → 0 < length xs → eqb (length (encode_lower xs)) 0 ≡ false
hex_some xs h = let twice = length-encode_with lower_digits xs in not_equal (length (encode_lower xs)) 0 (λ none. omega (arith, twice, none, h))

piece_hex : (xs : List ℕ) → IsBytes xs → 0 < length xs → piece_of (encode_lower xs) ≡ Some xs
piece_hex xs bytes some =
    piece_of_digits (encode_lower xs) (slice_split_none (λ b. eqb b 42) (encode_lower xs) (hex_lacks 42 refl xs bytes))
    ∙ rw (hex_some xs some) (ap result_ok (decode_of-encode_lower xs bytes))

one_piece : (word bytes : List ℕ) → Lacks 44 word → piece_of word ≡ Some bytes → data_of word ≡ Some bytes
unfolding data_of
one_piece word bytes h is = rw (slice_split_none (λ b. eqb b 44) word h, is) (ap Some (append-nil bytes))

pub data_hex : (xs : List ℕ) → IsBytes xs → 0 < length xs → data_of (encode_lower xs) ≡ Some xs
data_hex xs bytes some = one_piece (encode_lower xs) xs (hex_lacks 44 refl xs bytes) (piece_hex xs bytes some)

piece_two : (piece count digits : List ℕ) → parts_of 42 piece ≡ count ∷ digits ∷ [] → piece_of piece ≡ repeated count digits
unfolding piece_of
piece_two piece count digits h = rw h refl

many_is : number_of (codes "4096") ≡ Some 4096
unfolding number_of
many_is = refl

pub data_block : (v : ℕ) → v < 256 → data_of (codes "4096*" ++ encode_lower (v ∷ [])) ≡ Some (replicate 4096 v)
data_block v h =
    let bytes = bytes_cons v [] h bytes_none in
    let digits = encode_lower (v ∷ []) in
    let cut : parts_of 42 (codes "4096*" ++ digits) ≡ codes "4096" ∷ digits ∷ [] =
    slice_split_at (λ b. eqb b 42) (codes "4096") 42 digits (lacks 42 (codes "4096") refl) refl
    ∙ ap (λ rest. codes "4096" ∷ rest) (slice_split_none (λ b. eqb b 42) digits (hex_lacks 42 refl (v ∷ []) bytes)) in
    one_piece (codes "4096*" ++ digits) (replicate 4096 v) (lacks_both 44 (codes "4096*") digits (lacks 44 (codes "4096*") refl) (hex_lacks 44 refl (v ∷ []) bytes))
    (piece_two (codes "4096*" ++ digits) (codes "4096") digits cut ∙ repeated_gives (codes "4096") digits 4096 (v ∷ []) many_is (omega arith) (decode_sized-encode_lower (v ∷ []) 1 refl bytes))
