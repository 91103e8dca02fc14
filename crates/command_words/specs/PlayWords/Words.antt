-- The words of a play that is drawn: two names and options, each at most once, in any order; and
-- the first bad word of words that are none.
use Rattle.std.specs.Prelude.{◌≡◌, ℕ, ◌+◌, ◌<◌, ◌≤◌, Bool, true, false, Option, Some, None, List, []}
use Rattle.std.specs.Prelude.{◌∷◌, ◌++◌, if◌then◌else◌, length, take, drop, slice_get, decimal}
use Rattle.std.specs.Prelude.{codes, bytes_eq}
use Rattle.command_words.specs.Words.{IsName}
use Rattle.command_words.specs.declared.play_words.ask.Drawing.{Drawing}
use Rattle.command_words.specs.declared.play_words.options.Name.{Name}
use Rattle.command_words.specs.declared.play_words.options.Name.TheVariants as An
use Rattle.command_words.specs.declared.play_words.options.Setting.{Setting}

-- the word by which an option is named
abbrev pub text_of : Name → List ℕ
text_of An.Seed = codes "--seed"
text_of An.Steps = codes "--steps"
text_of An.From = codes "--from"
text_of An.To = codes "--to"
text_of An.Counts = codes "--counts"

-- whether it takes a number
abbrev pub takes_number : Name → Bool
takes_number An.Counts = false
takes_number _ = true

-- the least number that it takes
abbrev pub least_of : Name → ℕ
least_of An.Steps = 1
least_of _ = 0

-- the greatest; where it takes none, 0 stands for it
abbrev pub most_of : Name → ℕ
most_of An.Steps = 268435456
most_of An.Counts = 0
most_of _ = 18446744073709551615

-- its number in words, where it takes one: decimal without leading zeros
abbrev pub number_words_of : Setting → List (List ℕ)
number_words_of s = if takes_number s.name then decimal s.number ∷ [] else []

-- the words of options
abbrev pub option_words : List Setting → List (List ℕ)
option_words [] = []
option_words (s ∷ more) = text_of s.name ∷ (number_words_of s ++ option_words more)

-- two options have one name
abbrev pub same_name : Name → Name → Bool
same_name a b = bytes_eq (text_of a) (text_of b)

-- the number of the option of a name, where it stands there
abbrev pub number_of : Name → List Setting → Option ℕ
number_of name [] = None
number_of name (s ∷ more) = if same_name s.name name then Some s.number else number_of name more

-- a number is within its option's limits
pub record IsWithin (s : Setting) : Type 0 where
  pub enough : least_of s.name ≤ s.number
  pub few : s.number ≤ most_of s.name

-- options stand each at most once, with numbers within their limits
abbrev pub AreFit : List Setting → Type 0
AreFit [] = Unit {0}
AreFit (s ∷ more) = IsWithin s × (number_of s.name more ≡ None) × AreFit more

-- the first word, for a page or for a picture alone
abbrev pub first_word : Bool → List ℕ
first_word true = codes "html"
first_word false = codes "play"

-- the words ask for this drawing of a play of these texts
pub record AsksFor (words : List (List ℕ)) (desc trace : List ℕ) (drawing : Drawing) : Type 0 where
  pub words_are : words ≡ first_word drawing.page ∷ desc ∷ trace ∷ option_words drawing.settings
  pub desc_named : IsName desc
  pub trace_named : IsName trace
  pub fit : AreFit drawing.settings

-- the words ask for this
abbrev pub Spells : List (List ℕ) → Drawing → Type 0
Spells words drawing = (desc trace : List ℕ) × AsksFor words desc trace drawing

-- a form of the program begins with these words
abbrev pub Begins : List (List ℕ) → Type 0
Begins words = (more : List (List ℕ)) × (drawing : Drawing) × Spells (words ++ more) drawing

-- the first bad word: the least place up to which no form begins with the words, or the number of
-- the words where a form begins with all of them and they are none
pub record IsBadWord (words : List (List ℕ)) (k : ℕ) : Type 0 where
  pub within : k ≤ length words
  pub before : Begins (take k words)
  pub here : k < length words → Begins (take (k + 1) words) → ⊥
  pub whole : k ≡ length words → (drawing : Drawing) → Spells words drawing → ⊥

-- the first word asks for a page, or for a picture alone
abbrev pub IsKind : List (List ℕ) → Bool → Type 0
IsKind words page = slice_get words 0 ≡ Some (first_word page)

-- an option of the main program, where it is set
abbrev pub number_words : List ℕ → Option ℕ → List (List ℕ)
number_words name None = []
number_words name (Some n) = name ∷ decimal n ∷ []

-- the words by which the main program plays the same: `play`, both names, and the seed and the
-- limit of steps where they are set
abbrev pub main_words : List (List ℕ) → List Setting → List (List ℕ)
main_words words settings =
    codes "play" ∷ (take 2 (drop 1 words) ++ (number_words (codes "--seed") (number_of An.Seed settings)
    ++ number_words (codes "--steps") (number_of An.Steps settings)))
