-- What the functions say of the words that they read. Of the public ones only those cite it that
-- read a part of the words, for other programs; `read_words` does not.
use Rattle.std.specs.Prelude.{◌≡◌, ◌⊎◌, ◌↔◌, ◌+◌, ◌^◌, ◌<◌, ◌≤◌, ℕ, true, false, Bool, Option, Some}
use Rattle.std.specs.Prelude.{None, unwrap_or, List, [], ◌∷◌, ◌++◌, length, take, drop, slice_get}
use Rattle.std.specs.Prelude.{codes, decimal}
use Rattle.command_words.specs.declared.command.Options.{Options}
use Rattle.command_words.specs.declared.command.Schedule.{Schedule}
use Rattle.command_words.specs.declared.chosen.Name.{Name}
use Rattle.command_words.specs.declared.chosen.Name.TheVariants as An
use Rattle.command_words.specs.declared.chosen.Chosen.{Chosen}
use Rattle.command_words.specs.Options.{AreOptions, IsLimit}
use Rattle.command_words.specs.Words.{IsName}

-- the first bad word, where good words were to stand
pub record IsFirstBad (Good : List (List ℕ) → Type 0) (words : List (List ℕ)) (k : ℕ) : Type 0 where
  pub within : k ≤ length words
  pub before : (more : List (List ℕ)) × Good (take k words ++ more)
  pub here : k < length words → (more : List (List ℕ)) → Good (take (k + 1) words ++ more) → ⊥
  pub whole : k ≡ length words → Good words → ⊥

-- the first bad word, where good words were to stand from a place on
abbrev pub IsBadFrom : ℕ → (List (List ℕ) → Type 0) → List (List ℕ) → ℕ → Type 0
IsBadFrom at Good words k = (j : ℕ) × (k ≡ at + j) × IsFirstBad Good (drop at words) j

-- the word at a place spells a number within limits
pub record IsNumberAt (words : List (List ℕ)) (at least most n : ℕ) : Type 0 where
  pub word : slice_get words at ≡ Some (decimal n)
  pub enough : least ≤ n
  pub few : n ≤ most

-- the name of an option
abbrev pub text_of : Name → List ℕ
text_of An.Seed = codes "--seed"
text_of An.Steps = codes "--steps"
text_of An.Journal = codes "--journal"

-- the option wasn't chosen yet
abbrev pub IsUnset : Name → Chosen → Type 0
IsUnset An.Seed c = c.seed ≡ None
IsUnset An.Steps c = c.steps ≡ None
IsUnset An.Journal c = c.journal ≡ false

-- one setting in all, of those made before and behind
abbrev pub Joined : Option ℕ → Option ℕ → Option ℕ → Type 0
Joined None behind all = all ≡ behind
Joined (Some n) behind all = (behind ≡ None) × (all ≡ Some n)

-- and one choice in all
abbrev pub JoinedFlag : Bool → Bool → Bool → Type 0
JoinedFlag false behind all = all ≡ behind
JoinedFlag true behind all = (behind ≡ false) × (all ≡ true)

-- options that stand behind others which set something already, and what all of them set
pub record Follow (before : Chosen) (words : List (List ℕ)) (all : Chosen) : Type 0 where
  pub seed : Option ℕ
  pub steps : Option ℕ
  pub journal : Bool
  pub options : AreOptions words seed steps journal
  pub one_seed : Joined before.seed seed all.seed
  pub one_limit : Joined before.steps steps all.steps
  pub one_journal : JoinedFlag before.journal journal all.journal

-- the words may stand behind these options
abbrev pub MayFollow : Chosen → List (List ℕ) → Type 0
MayFollow before words = (all : Chosen) × Follow before words all

-- one option was read, from a place to the next
pub record HasRead (before after : Chosen) (words : List (List ℕ)) (at next : ℕ) : Type 0 where
  pub group : List (List ℕ)
  pub filled : 0 < length group
  pub next_is : next ≡ at + length group
  pub stands : drop at words ≡ group ++ drop next words
  pub follows : (more : List (List ℕ)) (all : Chosen)
      → Follow before (group ++ more) all ↔ Follow after more all

-- the words are options that set this
abbrev pub OptionsAre : List (List ℕ) → Options → Type 0
OptionsAre words o =
    (seed : Option ℕ) × AreOptions words seed o.steps o.journal × (o.seed ≡ unwrap_or seed 0)

-- the words are options
abbrev pub MayBeOptions : List (List ℕ) → Type 0
MayBeOptions words = (options : Options) × OptionsAre words options

-- the words are the name of a text
abbrev pub IsOneName : List (List ℕ) → Type 0
IsOneName words = (name : List ℕ) × (words ≡ name ∷ []) × IsName name

-- the words are this number, below 2 ^ 64
abbrev pub IsTheNumber : List (List ℕ) → ℕ → Type 0
IsTheNumber words n = (words ≡ decimal n ∷ []) × (n < 2 ^ 64)

-- the words are a number below 2 ^ 64
abbrev pub IsOneNumber : List (List ℕ) → Type 0
IsOneNumber words = (n : ℕ) × IsTheNumber words n

-- the words are a limit of steps, or none
abbrev pub MayBeLimit : List (List ℕ) → Type 0
MayBeLimit words = (steps : Option ℕ) × IsLimit words steps

-- a word at a place may name a text
abbrev pub IsNameAt : List (List ℕ) → ℕ → Type 0
IsNameAt words k = (w : List ℕ) × (slice_get words k ≡ Some w) × IsName w

-- words 1 and 2 may name texts
abbrev pub AreNamed : List (List ℕ) → Type 0
AreNamed words = IsNameAt words 1 × IsNameAt words 2

-- the first of words 1 and 2 that may not name a text
abbrev pub IsBadName : List (List ℕ) → ℕ → Type 0
IsBadName words k =
    ((k ≡ 1) × (IsNameAt words 1 → ⊥))
    ⊎ ((k ≡ 2) × IsNameAt words 1 × (IsNameAt words 2 → ⊥))

-- the words are the names of a description and a trace, and behind them words that set this
pub record Asks {T : Type 0} (Sets : List (List ℕ) → T → Type 0) (words : List (List ℕ)) (t : T)
    : Type 0 where
  pub desc : List ℕ
  pub trace : List ℕ
  pub more : List (List ℕ)
  pub words_are : words ≡ desc ∷ trace ∷ more
  pub desc_named : IsName desc
  pub trace_named : IsName trace
  pub sets : Sets more t

-- the words ask to play something with these options
abbrev pub AsksToPlay : List (List ℕ) → Options → Type 0
AsksToPlay words options = Asks OptionsAre words options

-- the words ask to play something
abbrev pub MayAskToPlay : List (List ℕ) → Type 0
MayAskToPlay words = (options : Options) × AsksToPlay words options

-- the words ask to run something with this limit
abbrev pub AsksToRun : List (List ℕ) → Option ℕ → Type 0
AsksToRun words steps = Asks IsLimit words steps

-- the words ask to run something
abbrev pub MayAskToRun : List (List ℕ) → Type 0
MayAskToRun words = (steps : Option ℕ) × AsksToRun words steps

-- the words are a schedule that sets this
abbrev pub ScheduleIs : List (List ℕ) → Schedule → Type 0
ScheduleIs words s =
    (seed : Option ℕ) × AreOptions words seed s.steps false × (s.seed ≡ unwrap_or seed 0)

-- the words are a schedule
abbrev pub MayBeSchedule : List (List ℕ) → Type 0
MayBeSchedule words = (schedule : Schedule) × ScheduleIs words schedule

-- the words are the name of one text, and behind it a schedule that sets this
pub record AsksAlone (words : List (List ℕ)) (s : Schedule) : Type 0 where
  pub trace : List ℕ
  pub more : List (List ℕ)
  pub words_are : words ≡ trace ∷ more
  pub trace_named : IsName trace
  pub sets : ScheduleIs more s

-- the words ask to play something of one text
abbrev pub MayAskAlone : List (List ℕ) → Type 0
MayAskAlone words = (schedule : Schedule) × AsksAlone words schedule
