-- The lines of the header: one constant each, by its name and its value.
use Rattle.std.specs.Prelude.{ℕ, ◌+◌, false, Option, Some, None, List, [], ◌∷◌, ◌++◌, codes}
use Rattle.std.specs.Fmt.{digits}
use Rattle.export_text.specs.ConfigText.Code.{code}

-- the name of a constant of one thing: what it is of, the thing's name, and what it tells of it
abbrev pub constant_of : List ℕ → List ℕ → List ℕ → List ℕ
constant_of kind name rest = kind ++ (code name ++ rest)

-- the definition of a constant
abbrev pub definition : List ℕ → List ℕ → List ℕ
definition constant value = codes "#define " ++ (constant ++ (32 ∷ (value ++ 10 ∷ [])))

-- an address or a size
abbrev pub hex_value : ℕ → List ℕ
hex_value n = codes "0x" ++ digits 16 false n

-- a line for each of some things, with its number, from one on
abbrev pub each_numbered : {T : Type 0} → (ℕ → T → List ℕ) → ℕ → List T → List ℕ
each_numbered text n [] = []
each_numbered text n (x ∷ rest) = text n x ++ each_numbered text (n + 1) rest

-- a number that may not be there
abbrev pub if_there : (ℕ → List ℕ) → Option ℕ → List ℕ
if_there text None = []
if_there text (Some n) = text n
