-- DATA: the bytes that a word stands for.
use Rattle.std.specs.Prelude.{ℕ, ◌==◌, ◌&&◌, nat_le, if◌then◌else◌, List, [], ◌∷◌, ◌++◌, length}
use Rattle.std.specs.Prelude.{slice_index, replicate, Option, Some, None}
use Rattle.std.specs.Option.{option_map, option_and_then}
use Rattle.line_text.specs.Texts.{parts_of, number_of, digits_meaning}

-- the byte of two digits, as often as a number of at least 1 says
abbrev pub repeated : List ℕ → List ℕ → Option (List ℕ)
repeated count digits =
    option_and_then (λ n.
    if nat_le 1 n && length digits == 2
    then option_map (λ bytes. replicate n (slice_index bytes 0)) (digits_meaning digits) else None)
    (number_of count)

-- the bytes of a piece of DATA, by its parts at each `*`
abbrev pub piece_meaning : List (List ℕ) → Option (List ℕ)
piece_meaning (digits ∷ []) = if length digits == 0 then None else digits_meaning digits
piece_meaning (count ∷ digits ∷ []) = repeated count digits
piece_meaning _ = None

-- the bytes that a piece of DATA stands for: hexadecimal digits, or a number, `*` and two digits
unfoldable pub piece_of : List ℕ → Option (List ℕ)
piece_of piece = piece_meaning (parts_of 42 piece)

-- the bytes of several pieces, one after another
abbrev pub all_pieces : List (List ℕ) → Option (List ℕ)
all_pieces [] = Some []
all_pieces (piece ∷ rest) =
    option_and_then (λ bytes. option_map (λ more. bytes ++ more) (all_pieces rest)) (piece_of piece)

-- the bytes that a word of pieces joined by commas stands for
unfoldable pub data_of : List ℕ → Option (List ℕ)
data_of word = all_pieces (parts_of 44 word)
