-- What a field of a plan holds, by the row of its key: the value there, or what its absence means.
use Rattle.std.specs.Prelude.{ℕ, Bool, true, false, List, [], codes, unwrap_or}
use Rattle.toml.specs.Data.{Members}
use Rattle.sdf_model.specs.declared.key.Absent.{Absent}
use Rattle.sdf_model.specs.declared.key.Absent.TheVariants as If
use Rattle.sdf_model.specs.Keys.{Row}
use Rattle.sdf_model.specs.Spelled.{number_if, number_or, text_if, truth_if}

-- the number that stands for an absent key
abbrev pub absent_number : Absent → Members → ℕ
absent_number (If.Number n) t = n
absent_number If.Budget t = number_or 1000 (codes "budget") t
absent_number _ t = 0

-- the text that stands for an absent key
abbrev pub absent_text : Absent → List ℕ
absent_text If.Level = codes "level"
absent_text _ = []

-- the truth value that stands for an absent key
abbrev pub absent_truth : Absent → Bool
absent_truth If.True = true
absent_truth _ = false

-- the number of a key in a table, or what stands for it
abbrev pub number_in : Row → Members → ℕ
number_in key t = unwrap_or (number_if key.name t) (absent_number key.absent t)

-- the text of a key in a table, or what stands for it
abbrev pub text_in : Row → Members → List ℕ
text_in key t = unwrap_or (text_if key.name t) (absent_text key.absent)

-- the truth value of a key in a table, or what stands for it
abbrev pub truth_in : Row → Members → Bool
truth_in key t = unwrap_or (truth_if key.name t) (absent_truth key.absent)
