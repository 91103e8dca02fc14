-- The grammar of the program's words, and the first bad word of those that have none of its forms.
use Rattle.std.specs.Prelude.{◌≡◌, ◌+◌, ◌^◌, ◌<◌, ◌≤◌, ℕ, false, Option, Some, unwrap_or, List, []}
use Rattle.std.specs.Prelude.{◌∷◌, ◌++◌, length, take, slice_get, map, string_bytes, codes, decimal}
use Rattle.std.specs.Global.{Global}
use Rattle.std.specs.declared.string.String.{String}
use Rattle.cargo_core.specs.Lists.{IsPrefix}
use Rattle.command_words.specs.declared.command.Command.{Command}
use Rattle.command_words.specs.declared.command.Command.TheVariants as Do
use Rattle.command_words.specs.declared.command.Options.{Options}
use Rattle.command_words.specs.declared.command.Schedule.{Schedule}
use Rattle.command_words.specs.Options.{AreOptions, IsLimit}

-- the bytes of each word
abbrev pub texts_of : List (String Global) → List (List ℕ)
texts_of words = map (λ w. string_bytes w) words

-- a word that may name a text: it isn't empty and doesn't begin with two dashes
pub record IsName (word : List ℕ) : Type 0 where
  pub filled : 0 < length word
  pub plain : IsPrefix (codes "--") word → ⊥

-- `check` and the name of a description
pub record IsCheck (words : List (List ℕ)) (desc : List ℕ) : Type 0 where
  pub words_are : words ≡ codes "check" ∷ desc ∷ []
  pub desc_named : IsName desc

-- `layout` and the name of a description
pub record IsLayout (words : List (List ℕ)) (desc : List ℕ) : Type 0 where
  pub words_are : words ≡ codes "layout" ∷ desc ∷ []
  pub desc_named : IsName desc

-- `play`, the name of a description and that of a trace, and options; without a seed it is 0
pub record IsPlay (words : List (List ℕ)) (desc trace : List ℕ) (options : Options) : Type 0 where
  pub more : List (List ℕ)
  pub seed : Option ℕ
  pub words_are : words ≡ codes "play" ∷ desc ∷ trace ∷ more
  pub desc_named : IsName desc
  pub trace_named : IsName trace
  pub options_are : AreOptions more seed options.steps options.journal
  pub seed_is : options.seed ≡ unwrap_or seed 0

-- `run`, the name of a description and that of a trace, and a limit of steps or none
pub record IsRun (words : List (List ℕ)) (desc trace : List ℕ) (steps : Option ℕ) : Type 0 where
  pub more : List (List ℕ)
  pub words_are : words ≡ codes "run" ∷ desc ∷ trace ∷ more
  pub desc_named : IsName desc
  pub trace_named : IsName trace
  pub limit_is : IsLimit more steps

-- `gen` and a number below 2 ^ 64, in decimal without leading zeros
pub record IsGen (words : List (List ℕ)) (n : ℕ) : Type 0 where
  pub words_are : words ≡ codes "gen" ∷ decimal n ∷ []
  pub small : n < 2 ^ 64

-- a kind of command, the name of its one text, and options, of which none asks for the journal;
-- without a seed it is 0
pub record IsAlone (kind : List ℕ) (words : List (List ℕ)) (trace : List ℕ) (schedule : Schedule)
    : Type 0 where
  pub more : List (List ℕ)
  pub seed : Option ℕ
  pub words_are : words ≡ kind ∷ trace ∷ more
  pub trace_named : IsName trace
  pub options_are : AreOptions more seed schedule.steps false
  pub seed_is : schedule.seed ≡ unwrap_or seed 0

-- `i2c`, the name of a trace, and a schedule
abbrev pub IsI2c : List (List ℕ) → List ℕ → Schedule → Type 0
IsI2c words trace schedule = IsAlone (codes "i2c") words trace schedule

-- `switch`, the name of a trace, and a schedule
abbrev pub IsSwitch : List (List ℕ) → List ℕ → Schedule → Type 0
IsSwitch words trace schedule = IsAlone (codes "switch") words trace schedule

-- the words spell a command
abbrev pub Spells : List (List ℕ) → Command → Type 0
Spells words Do.Check = (desc : List ℕ) × IsCheck words desc
Spells words Do.Layout = (desc : List ℕ) × IsLayout words desc
Spells words (Do.Play options) = (desc trace : List ℕ) × IsPlay words desc trace options
Spells words (Do.Run steps) = (desc trace : List ℕ) × IsRun words desc trace steps
Spells words (Do.Gen n) = IsGen words n
Spells words (Do.I2c schedule) = (trace : List ℕ) × IsI2c words trace schedule
Spells words (Do.Switch schedule) = (trace : List ℕ) × IsSwitch words trace schedule

-- a command begins with these words
abbrev pub Begins : List (List ℕ) → Type 0
Begins words = (more : List (List ℕ)) × (command : Command) × Spells (words ++ more) command

-- the first bad word: the least place up to which no command begins with the words, or the number
-- of the words where a command begins with all of them and they are none
pub record IsBadWord (words : List (List ℕ)) (k : ℕ) : Type 0 where
  pub within : k ≤ length words
  pub before : Begins (take k words)
  pub here : k < length words → Begins (take (k + 1) words) → ⊥
  pub whole : k ≡ length words → (command : Command) → Spells words command → ⊥

-- the first word is `run`
abbrev pub BeginsRun : List (List ℕ) → Type 0
BeginsRun words = slice_get words 0 ≡ Some (codes "run")

-- the place of the last name, or of the number, in the words of a command
abbrev pub last_name : Command → ℕ
last_name Do.Check = 1
last_name Do.Layout = 1
last_name (Do.Play options) = 2
last_name (Do.Run steps) = 2
last_name (Do.Gen n) = 1
last_name (Do.I2c schedule) = 1
last_name (Do.Switch schedule) = 1
