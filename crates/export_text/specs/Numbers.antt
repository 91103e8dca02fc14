-- How addresses and sizes are spelled, and read: in hexadecimal, with an underscore between groups
-- of three digits from the right.
use Rattle.std.specs.Prelude.{ℕ, ◌%◌, ◌==◌, ◌&&◌, not, nat_lt, Bool, false, List, [], ◌∷◌, ◌++◌}
use Rattle.std.specs.Prelude.{length, drop, filter, if◌then◌else◌, codes}
use Rattle.std.specs.Fmt.{digits, decimal}
use Rattle.std.specs.Str.Parse.{digits_value}

-- whether a group of digits ends in front of so many others
abbrev pub ends_group : ℕ → Bool
ends_group left = nat_lt 0 left && (left % 3 == 0)

-- a digit in front of so many others, with an underscore behind it where a group ends
abbrev pub digit_text : ℕ → ℕ → List ℕ
digit_text left d = if ends_group left then d ∷ 95 ∷ [] else d ∷ []

-- digits with an underscore between groups of three from the right
abbrev pub grouped : List ℕ → List ℕ
grouped [] = []
grouped (d ∷ rest) = digit_text (length rest) d ++ grouped rest

-- an address or a size: as 0x2_000_000
abbrev pub hex_text : ℕ → List ℕ
hex_text n = codes "0x" ++ grouped (digits 16 false n)

-- the digits of such a text
abbrev pub plain_digits : List ℕ → List ℕ
plain_digits text = filter (λ b. not (b == 95)) text

-- the number that such a text spells, behind its `0x`
abbrev pub hex_value : List ℕ → ℕ
hex_value text = digits_value 16 (plain_digits (drop 2 text))

-- any other number is decimal
abbrev pub decimal_value : List ℕ → ℕ
decimal_value text = digits_value 10 text
