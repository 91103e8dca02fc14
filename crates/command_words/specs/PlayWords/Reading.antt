-- What the private functions say of the options that they read; no public clause cites it.
use Rattle.std.specs.Prelude.{◌≡◌, ℕ, ◌+◌, List, [], ◌∷◌, ◌++◌, length, drop}
use Rattle.command_words.specs.Reading.{Asks as AsksWith}
use Rattle.command_words.specs.declared.play_words.options.Setting.{Setting}
use Rattle.command_words.specs.PlayWords.Words.{text_of, number_words_of, option_words, AreFit}

-- the words are these options
abbrev pub OptionsAre : List (List ℕ) → List Setting → Type 0
OptionsAre words settings = (words ≡ option_words settings) × AreFit settings

-- the words are options
abbrev pub MayBeOptions : List (List ℕ) → Type 0
MayBeOptions words = (settings : List Setting) × OptionsAre words settings

-- the words may stand behind these options
abbrev pub MayFollow : List Setting → List (List ℕ) → Type 0
MayFollow done words = (more : List Setting) × (words ≡ option_words more) × AreFit (done ++ more)

-- an option was read, from a place to the next
pub record HasRead (done : List Setting) (words : List (List ℕ)) (at : ℕ) (s : Setting) (next : ℕ)
    : Type 0 where
  pub stands : drop at words ≡ text_of s.name ∷ (number_words_of s ++ drop next words)
  pub next_is : next ≡ at + 1 + length (number_words_of s)
  pub fit : AreFit (done ++ s ∷ [])

-- the words are the names of a description and a trace, and behind them these options
abbrev pub Asks : List (List ℕ) → List Setting → Type 0
Asks words settings = AsksWith OptionsAre words settings

-- the words are two names and options
abbrev pub MayAsk : List (List ℕ) → Type 0
MayAsk words = (settings : List Setting) × Asks words settings
