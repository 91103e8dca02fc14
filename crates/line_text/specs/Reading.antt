-- What the readers of words say, for their own contracts.
use Rattle.std.specs.Prelude.{◌≡◌, ℕ, ◌+◌, ◌^◌, ◌<◌, ◌≤◌, Bool, List, ◌++◌, length, Option, Some}
use Rattle.std.specs.Prelude.{None, MatchBool}

-- a number that no line can use: it isn't there, or is 2 ^ 64 or more
abbrev pub IsNoneOrHuge : Option ℕ → Type 0
IsNoneOrHuge number = (n : ℕ) → number ≡ Some n → 2 ^ 64 ≤ n

-- a number that isn't there, or isn't below a limit
abbrev pub IsNoneOrFrom : ℕ → Option ℕ → Type 0
IsNoneOrFrom limit number = (n : ℕ) → number ≡ Some n → limit ≤ n

-- DATA as it was read: its bytes, or none where it has none or more than so many
abbrev pub IsData : Option (List ℕ) → ℕ → Option (List ℕ) → Type 0
IsData «data» most None = (bytes : List ℕ) → «data» ≡ Some bytes → most < length bytes
IsData «data» most (Some bytes) = («data» ≡ Some bytes) × (length bytes ≤ most)

-- a piece as it was read: its bytes were appended, or it has none or too many
abbrev pub IsTaken : Option (List ℕ) → List ℕ → List ℕ → ℕ → Bool → Type 0
IsTaken piece old new most good =
    MatchBool good
    ((bytes : List ℕ) × (piece ≡ Some bytes) × (new ≡ old ++ bytes) × (length new ≤ most))
    ((bytes : List ℕ) → piece ≡ Some bytes → most < length old + length bytes)
