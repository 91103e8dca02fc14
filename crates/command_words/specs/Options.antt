-- The options of `play` and `run`: which words they are, and what they set.
use Rattle.std.specs.Prelude.{ℕ, ◌^◌, ◌<◌, ◌≤◌, true, false, Bool, Option, Some, None, List, []}
use Rattle.std.specs.Prelude.{◌∷◌, codes, decimal}

-- options in any order, each at most once, and what they set: a seed, a limit of steps, and whether
-- the journal is asked for; a number is decimal without leading zeros, a seed is below 2 ^ 64, and
-- steps are from 1 to 268,435,456
pub data AreOptions : List (List ℕ) → Option ℕ → Option ℕ → Bool → Type 0 where
  no_more : AreOptions [] None None false
  seed_set : (n : ℕ) (words : List (List ℕ)) (steps : Option ℕ) (journal : Bool) → n < 2 ^ 64
      → AreOptions words None steps journal
      → AreOptions (codes "--seed" ∷ decimal n ∷ words) (Some n) steps journal
  steps_set : (n : ℕ) (words : List (List ℕ)) (seed : Option ℕ) (journal : Bool)
      → 1 ≤ n → n ≤ 268435456
      → AreOptions words seed None journal
      → AreOptions (codes "--steps" ∷ decimal n ∷ words) seed (Some n) journal
  journal_set : (words : List (List ℕ)) (seed steps : Option ℕ)
      → AreOptions words seed steps false → AreOptions (codes "--journal" ∷ words) seed steps true

-- the one option of `run`, or none: a limit of steps, from 1 to 268,435,456, decimal without
-- leading zeros
pub data IsLimit : List (List ℕ) → Option ℕ → Type 0 where
  unlimited : IsLimit [] None
  limited : (n : ℕ) → 1 ≤ n → n ≤ 268435456
      → IsLimit (codes "--steps" ∷ decimal n ∷ []) (Some n)
