-- How many bytes of a disk print in few words: as runs of equal bytes.
use Rattle.std.specs.Prelude.{ℕ, ◌+◌, ◌==◌, if◌then◌else◌, List, [], ◌∷◌, ◌++◌}
use Rattle.std.specs.Fmt.{decimal}
use Rattle.hex.specs.Hex.{encode_lower}

-- so many equal bytes that stand one after another
pub record ByteRun : Type 0 where
  pub times : ℕ
  pub byte : ℕ

-- a byte before some runs: it lengthens the first of them where that one is of the same byte
abbrev pub with_byte : ℕ → List ByteRun → List ByteRun
with_byte b [] = record { times = 1; byte = b } ∷ []
with_byte b (r ∷ rs) =
    if b == r.byte then record { times = r.times + 1; byte = b } ∷ rs
    else record { times = 1; byte = b } ∷ r ∷ rs

-- the maximal runs of equal bytes
abbrev pub runs_of : List ℕ → List ByteRun
runs_of [] = []
runs_of (b ∷ bs) = with_byte b (runs_of bs)

-- a run prints as its length, a star and its byte in two digits
abbrev pub run_text : ByteRun → List ℕ
run_text r = decimal r.times ++ 42 ∷ encode_lower (r.byte ∷ [])

-- runs behind the first one, each with a comma before it
abbrev pub more_runs_text : List ByteRun → List ℕ
more_runs_text [] = []
more_runs_text (r ∷ rs) = 44 ∷ run_text r ++ more_runs_text rs

-- runs print joined by commas
abbrev pub runs_text : List ByteRun → List ℕ
runs_text [] = []
runs_text (r ∷ rs) = run_text r ++ more_runs_text rs
