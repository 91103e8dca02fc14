use Rattle.std.proofs.Common.{◌≡◌, ℕ, ◌+◌, ◌<◌, ◌≤◌, inl, inr, Bool, true, false, leb, eqb, ◌&&◌, ◌||◌, List, length, get_or, None, refl, arith, below_more}
use Rattle.std.specs.Str.{IsAscii, IsUtf8}
use Rattle.std.proofs.lemmas.Bool.{cases_Bool, cases_lt, lt-leb, eqb-true, and_parts}
use Rattle.std.proofs.lemmas.List.{get_or_past}
use Rattle.std.proofs.lemmas.Str.{IsUtf8-from_ascii}
use Rattle.frame_core.specs.Macs.{is_digit, has_pair, has_colon, is_mac_text, mac_of}

and_false : (b : Bool) → (b && false) ≡ false
and_false true = refl
and_false false = refl

-- a digit and a colon are ASCII
digit_small : (c : ℕ) → is_digit c ≡ true → c < 128
digit_small c h = elim (cases_lt c 128) [
  | inl small ↦ small
  | inr large ↦ absurd (
      let no : is_digit c ≡ false = rw (lt-leb c 57 (omega arith), lt-leb c 70 (omega arith), lt-leb c 102 (omega arith), and_false (leb 48 c), and_false (leb 65 c), and_false (leb 97 c)) refl in
      cc)
]

pair_small : (text : List ℕ) (at : ℕ) → has_pair text at ≡ true → (get_or text at 0 < 128) × (get_or text (at + 1) 0 < 128)
pair_small text at h =
    let both = and_parts (is_digit (get_or text at 0)) (is_digit (get_or text (at + 1) 0)) h in
    (digit_small _ both.0, digit_small _ both.1)

colon_small : (text : List ℕ) (at : ℕ) → has_colon text at ≡ true → get_or text at 0 < 128
colon_small text at h = let is = eqb-true (get_or text at 0) 58 h in omega arith

-- the text of an address is ASCII
ascii : (text : List ℕ) → is_mac_text text ≡ true → IsAscii text
unfolding is_mac_text
ascii text h =
    let p11 = and_parts _ (has_pair text 15) h in
    let p10 = and_parts _ (has_colon text 14) p11.0 in
    let p9 = and_parts _ (has_pair text 12) p10.0 in
    let p8 = and_parts _ (has_colon text 11) p9.0 in
    let p7 = and_parts _ (has_pair text 9) p8.0 in
    let p6 = and_parts _ (has_colon text 8) p7.0 in
    let p5 = and_parts _ (has_pair text 6) p6.0 in
    let p4 = and_parts _ (has_colon text 5) p5.0 in
    let p3 = and_parts _ (has_pair text 3) p4.0 in
    let p2 = and_parts _ (has_colon text 2) p3.0 in
    let p1 = and_parts _ (has_pair text 0) p2.0 in
    let long = eqb-true (length text) 17 p1.0 in
    let P = λ (k : ℕ). get_or text k 0 < 128 in
    let b0 : (k : ℕ) → k < 0 → P k = λ k none. absurd (omega arith) in
    let b1 = below_more P 0 b0 (pair_small text 0 p1.1).0 in
    let b2 = below_more P 1 b1 (pair_small text 0 p1.1).1 in
    let b3 = below_more P 2 b2 (colon_small text 2 p2.1) in
    let b4 = below_more P 3 b3 (pair_small text 3 p3.1).0 in
    let b5 = below_more P 4 b4 (pair_small text 3 p3.1).1 in
    let b6 = below_more P 5 b5 (colon_small text 5 p4.1) in
    let b7 = below_more P 6 b6 (pair_small text 6 p5.1).0 in
    let b8 = below_more P 7 b7 (pair_small text 6 p5.1).1 in
    let b9 = below_more P 8 b8 (colon_small text 8 p6.1) in
    let b10 = below_more P 9 b9 (pair_small text 9 p7.1).0 in
    let b11 = below_more P 10 b10 (pair_small text 9 p7.1).1 in
    let b12 = below_more P 11 b11 (colon_small text 11 p8.1) in
    let b13 = below_more P 12 b12 (pair_small text 12 p9.1).0 in
    let b14 = below_more P 13 b13 (pair_small text 12 p9.1).1 in
    let b15 = below_more P 14 b14 (colon_small text 14 p10.1) in
    let b16 = below_more P 15 b15 (pair_small text 15 p11.1).0 in
    let b17 = below_more P 16 b16 (pair_small text 15 p11.1).1 in
    λ i. elim (cases_lt i 17) [
      | inl inside ↦ b17 i inside
      | inr past ↦ rw (get_or_past text i 0 (omega (arith, long))) (omega arith)
    ]

-- bytes that are no text spell no address
pub no_text : (text : List ℕ) → (IsUtf8 text → ⊥) → mac_of text ≡ None
unfolding mac_of
no_text text h = elim (cases_Bool (is_mac_text text)) [
  | inl is ↦ absurd (h (IsUtf8-from_ascii text (ascii text is)))
  | inr isnt ↦ rw isnt refl
]
