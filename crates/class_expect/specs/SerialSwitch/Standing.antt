-- What the switch keeps of the input that it read.
use Rattle.std.specs.Prelude.{◌≡◌, ℕ, List, [], ◌∷◌, length, Option, Some, None}
use Rattle.std.specs.Option.{option_map}
use Rattle.class_expect.specs.declared.serial_switch.switch.Switch.{Switch}
use Rattle.class_expect.specs.declared.serial_switch.switch.Selection.{Selection}
use Rattle.class_expect.specs.SerialSwitch.Switching.{split_of, selected, number_of}

-- what is kept of a rest: how many digits an open selection has, and their number
abbrev pub kept_of : List ℕ → Option (ℕ × ℕ)
kept_of [] = None
kept_of (b ∷ ds) = Some (length ds, number_of ds)

-- an open selection: how many digits it has, and their number
abbrev pub digits_and_number : Selection → ℕ × ℕ
digits_and_number s = (s.digits, s.number)

-- the switch, of n clients, stands after this input
pub record StandsAfter (n : ℕ) (input : List ℕ) (s : Switch) : Type 0 where
  pub clients : s.clients ≡ n
  pub chosen : s.selected ≡ selected n (split_of input).pieces
  pub opened : option_map digits_and_number s.opened ≡ kept_of (split_of input).rest
