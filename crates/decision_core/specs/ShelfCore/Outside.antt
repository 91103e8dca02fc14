-- What a call to the outside may do: fail, give the next bytes, take some.
use Rattle.std.specs.Prelude.{◌≡◌, ◌⊎◌, ◌+◌, ◌-◌, ◌^◌, ◌≤◌, ℕ, Option, List, [], ◌∷◌, ◌++◌}
use Rattle.std.specs.Prelude.{length, take, min, Bool, true, IfSome}
use Rattle.std.specs.Option.{option_map}
use Rattle.sdf_model.specs.Counts.{text_most}

-- a count after one more: it stands still at the end of its type
abbrev pub one_more : ℕ → ℕ
one_more count = min (count + 1) (2 ^ 64 - 1)

-- one call failed, and none was made after it: the count of faults is one more, and the last call
-- failed
pub record FailsLast (before after : ℕ) (last : Bool) : Type 0 where
  pub counted : after ≡ one_more before
  pub last_is : last ≡ true

-- a call that answered n put the next n bytes of what was left into a piece, and none only where
-- nothing is left or the piece has no room
pub record GivesNext (left : List ℕ) (n : ℕ) (piece : List ℕ) : Type 0 where
  pub within : n ≤ length left
  pub bytes : take n piece ≡ take n left
  pub none : n ≡ 0 → (left ≡ []) ⊎ (piece ≡ [])

-- nothing is left, where this is told
abbrev pub IsAtEnd : Option (List ℕ) → Type 0
IsAtEnd left = IfSome left (λ bytes. bytes ≡ [])

-- what is written once these bytes were appended, where this is told
abbrev pub appended : Option (List ℕ) → List ℕ → Option (List ℕ)
appended written bytes = option_map (λ before. before ++ bytes) written

-- the names of the texts that were opened once this one was opened too, where they are told
abbrev pub also_opened : Option (List (List ℕ)) → List ℕ → Option (List (List ℕ))
also_opened opens name = option_map (λ names. names ++ name ∷ []) opens

-- how many bytes of a text are read at most: one more than it may have
abbrev pub read_most : ℕ
read_most = text_most + 1

-- the bytes that are read of a text: all of it, or its first 16,777,217; any bytes where the text
-- isn't told
abbrev pub IsRead : Option (List ℕ) → List ℕ → Type 0
IsRead told bytes = IfSome told (λ text. bytes ≡ take read_most text)
