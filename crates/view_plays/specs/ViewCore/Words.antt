-- The grammar of the program's words, and the first bad word of those that have none of its forms.
use Rattle.std.specs.Prelude.{◌≡◌, ◌+◌, ◌<◌, ◌≤◌, ℕ, Some, List, [], ◌∷◌, ◌++◌, length, take}
use Rattle.std.specs.Prelude.{slice_get, codes}
use Rattle.command_words.specs.Words.{IsName}
use Rattle.view_plays.specs.declared.view_core.ask.View.{View}
use Rattle.view_plays.specs.declared.view_core.ask.View.TheVariants as Of

-- a word at a place may name a text
abbrev pub IsNameAt : List (List ℕ) → ℕ → Type 0
IsNameAt words k = (w : List ℕ) × (slice_get words k ≡ Some w) × IsName w

-- there is a word at a place, and it is this one
abbrev pub HasWordAt : List (List ℕ) → ℕ → List ℕ → Type 0
HasWordAt words k word = (w : List ℕ) × (slice_get words k ≡ Some w) × (w ≡ word)

-- the word by which a form begins
abbrev pub first_word : View → List ℕ
first_word Of.System = codes "export"
first_word Of.Config = codes "export"
first_word Of.Layout = codes "layout"
first_word Of.Graph = codes "system"

-- the words of a form behind the name of the description
abbrev pub last_words : View → List (List ℕ)
last_words Of.Config = codes "--config" ∷ []
last_words _ = []

-- the words ask for this of the description of this name
pub record AsksFor (words : List (List ℕ)) (desc : List ℕ) (view : View) : Type 0 where
  pub words_are : words ≡ first_word view ∷ desc ∷ last_words view
  pub named : IsName desc

-- the words ask for this
abbrev pub Spells : List (List ℕ) → View → Type 0
Spells words view = (desc : List ℕ) × AsksFor words desc view

-- a form of the program begins with these words
abbrev pub Begins : List (List ℕ) → Type 0
Begins words = (more : List (List ℕ)) × (view : View) × Spells (words ++ more) view

-- the first bad word: the least place up to which no form begins with the words, or the number of
-- the words where a form begins with all of them and they are none
pub record IsBadWord (words : List (List ℕ)) (k : ℕ) : Type 0 where
  pub within : k ≤ length words
  pub before : Begins (take k words)
  pub here : k < length words → Begins (take (k + 1) words) → ⊥
  pub whole : k ≡ length words → (view : View) → Spells words view → ⊥

-- the first word and a name alone ask for this
pub record BeginsAlone (words : List (List ℕ)) (view : View) : Type 0 where
  pub first : slice_get words 0 ≡ Some (first_word view)
  pub last : last_words view ≡ []

-- no form begins with the first word
abbrev pub BeginsNone : List (List ℕ) → Type 0
BeginsNone words = (view : View) → slice_get words 0 ≡ Some (first_word view) → ⊥

-- a third word may follow: it is `--config` behind `export`
abbrev pub GoesOn : List (List ℕ) → View → Type 0
GoesOn words view = (view ≡ Of.System) × (slice_get words 2 ≡ Some (codes "--config"))
