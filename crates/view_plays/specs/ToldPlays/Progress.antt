-- What a long play tells while it is made.
use Rattle.std.specs.Prelude.{◌≡◌, ℕ, zero, suc, ◌+◌, ◌*◌, Bool, true, false, Option, List, []}
use Rattle.std.specs.Prelude.{◌++◌, codes}
use Rattle.std.specs.Fmt.{decimal}
use Rattle.cargo_core.specs.Lists.{IsPrefix}
use Rattle.decision_core.specs.ShelfCore.Outside.{appended}

-- the line after so many slices: how many steps were made, of 262,144 a slice
abbrev pub progress_line : ℕ → List ℕ
progress_line slices = decimal (262144 * slices) ++ codes " steps\n"

-- the lines after each of so many slices
abbrev pub progress_text : ℕ → List ℕ
progress_text zero = []
progress_text (suc n) = progress_text n ++ progress_line (n + 1)

-- a beginning of the lines after some slices was written, and nothing else
pub record IsProgress {E : Type 0} (written : E → Option (List ℕ)) (old new : E) : Type 0 where
  pub slices : ℕ
  pub part : List ℕ
  pub begins : IsPrefix part (progress_text slices)
  pub written_is : written new ≡ appended (written old) part

-- the line after so many slices was written whole, or a beginning of it, and then none is written
-- any more; nothing where one before it wasn't
pub record HasTold {E : Type 0} (written : E → Option (List ℕ)) (old new : E) (before : Bool)
    (slices : ℕ) (after : Bool) : Type 0 where
  pub part : List ℕ
  pub written_is : written new ≡ appended (written old) part
  pub silent : before ≡ false → (part ≡ []) × (after ≡ false)
  pub begins : IsPrefix part (progress_line slices)
  pub whole : after ≡ true → part ≡ progress_line slices
