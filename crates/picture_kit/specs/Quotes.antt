-- The quotes of DOT, and how a plain reader of a quoted text gets it back.
use Rattle.std.specs.Prelude.{ℕ, ◌==◌, Bool, true, false, Option, Some, None, List, [], ◌∷◌, ◌++◌}
use Rattle.std.specs.Prelude.{if◌then◌else◌, codes}
use Rattle.std.specs.List.{flat_map}
use Rattle.std.specs.Option.{option_map}

-- a byte of a quoted text: a quote and a backslash have a backslash in front, and the end of a line
-- is a backslash and an `n`
abbrev pub quoted_byte : ℕ → List ℕ
quoted_byte b =
    if b == 34 then codes "\\\"" else
    if b == 92 then codes "\\\\" else
    if b == 10 then codes "\\n" else b ∷ []

-- a text in quotes
abbrev pub quoted : List ℕ → List ℕ
quoted text = 34 ∷ (flat_map quoted_byte text ++ 34 ∷ [])

-- what a reader has got: a text, and what stands behind its last quote
pub record Got : Type 0 where
  pub text : List ℕ
  pub rest : List ℕ

-- a text that begins with one more byte
abbrev pub with_byte : ℕ → Got → Got
with_byte b got = record got { text = b ∷ got.text }

-- the byte that is meant behind a backslash
abbrev pub meant : ℕ → ℕ
meant b = if b == 110 then 10 else b

-- what a reader gets from behind the first quote on, where the byte before was a backslash that
-- stands for the next (true) or not: the text up to the first quote that has none in front
abbrev pub read_quoted : Bool → List ℕ → Option Got
read_quoted _ [] = None
read_quoted true (b ∷ bytes) = option_map (with_byte (meant b)) (read_quoted false bytes)
read_quoted false (b ∷ bytes) =
    if b == 34 then Some (record { text = []; rest = bytes }) else
    if b == 92 then read_quoted true bytes else
    option_map (with_byte b) (read_quoted false bytes)
