-- Lines, words and numbers, and the bytes of hexadecimal digits.
use Rattle.std.specs.Prelude.{ℕ, ◌+◌, ◌-◌, ◌*◌, ◌==◌, ◌&&◌, ◌||◌, nat_eq, nat_le, nat_lt, not, Bool}
use Rattle.std.specs.Prelude.{true, if◌then◌else◌, List, [], ◌∷◌, length, slice_index, fold}
use Rattle.std.specs.Prelude.{Option, Some, None}
use Rattle.std.specs.Cmp.Lexicographic.{pointwise}
use Rattle.std.specs.Option.{option_and_then}
use Rattle.std.specs.Result.{result_ok}
use Rattle.std.specs.List.{slice_split, list_all}
use Rattle.hex.specs.Hex.{decode_of}

-- the parts of a text between the bytes of one value
abbrev pub parts_of : ℕ → List ℕ → List (List ℕ)
parts_of c text = slice_split (λ b. b == c) text

-- the parts but for the last, where that is empty
abbrev pub without_empty_end : List (List ℕ) → List (List ℕ)
without_empty_end [] = []
without_empty_end (part ∷ []) = if length part == 0 then [] else part ∷ []
without_empty_end (part ∷ next ∷ rest) = part ∷ without_empty_end (next ∷ rest)

-- the lines of a text: it is cut at byte 10, and a last byte 10 ends the last line, so the empty
-- text has no line
unfoldable pub lines_of : List ℕ → List (List ℕ)
lines_of text = without_empty_end (parts_of 10 text)

-- the words of a line: it is cut at each space
abbrev pub words_of : List ℕ → List (List ℕ)
words_of line = parts_of 32 line

-- whether two texts are the same
abbrev pub same_text : List ℕ → List ℕ → Bool
same_text a b = pointwise nat_eq a b

-- whether a line is skipped: it is empty, or begins with `#`
abbrev pub is_skipped : List ℕ → Bool
is_skipped line = if length line == 0 then true else slice_index line 0 == 35

-- whether a word is a number: decimal digits, the first of them not 0 where there are several
abbrev pub is_number : List ℕ → Bool
is_number word =
    list_all (λ c. nat_le 48 c && nat_le c 57) word && nat_lt 0 (length word)
    && (length word == 1 || not (slice_index word 0 == 48))

-- what decimal digits stand for
abbrev pub decimal_value : List ℕ → ℕ
decimal_value word = fold (λ n c. 10 * n + (c - 48)) 0 word

-- the number that a word spells, of any size
unfoldable pub number_of : List ℕ → Option ℕ
number_of word = if is_number word then Some (decimal_value word) else None

-- the number that a word spells, where it is from the least to the most
abbrev pub number_from : (least most : ℕ) → List ℕ → Option ℕ
number_from least most word =
    option_and_then (λ n. if nat_le least n && nat_le n most then Some n else None)
    (number_of word)

-- the bytes of an even number of hexadecimal digits, of either case
abbrev pub digits_meaning : List ℕ → Option (List ℕ)
digits_meaning digits = result_ok (decode_of digits)
