-- How a name of a description stands in the name of a constant: letters and digits stay, and any
-- other byte has a code of its own behind a `_`.
use Rattle.std.specs.Prelude.{ℕ, ◌+◌, ◌==◌, ◌&&◌, ◌||◌, not, nat_lt, Bool, true, false, List}
use Rattle.std.specs.Prelude.{[], ◌∷◌, if◌then◌else◌}
use Rattle.std.specs.List.{flat_map}

-- whether a number is from one to another
abbrev pub is_from_to : ℕ → ℕ → ℕ → Bool
is_from_to first last b = nat_lt b (last + 1) && not (nat_lt b first)

-- whether a byte is a letter or a digit
abbrev pub stays : ℕ → Bool
stays b = is_from_to 97 122 b || (is_from_to 65 90 b || is_from_to 48 57 b)

-- the code of another byte: `u` of `_`, `h` of `-`, `d` of `.`, `a` of `@`; what no name has is its
-- own
abbrev pub mark_of : ℕ → ℕ
mark_of b =
    if b == 95 then 117 else
    if b == 45 then 104 else
    if b == 46 then 100 else
    if b == 64 then 97 else b

-- a byte of a name
abbrev pub code_byte : ℕ → List ℕ
code_byte b = if stays b then b ∷ [] else 95 ∷ mark_of b ∷ []

-- a name
abbrev pub code : List ℕ → List ℕ
code name = flat_map code_byte name

-- the byte of a code
abbrev pub byte_of : ℕ → ℕ
byte_of m =
    if m == 117 then 95 else
    if m == 104 then 45 else
    if m == 100 then 46 else
    if m == 97 then 64 else m

-- the name that a reader of codes tells, who stands behind a `_` or not
abbrev pub name_from : Bool → List ℕ → List ℕ
name_from behind [] = []
name_from behind (b ∷ rest) =
    if behind then byte_of b ∷ name_from false rest else
    if b == 95 then name_from true rest else b ∷ name_from false rest
