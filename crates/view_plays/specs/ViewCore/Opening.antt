-- Which texts are opened for the words.
use Rattle.std.specs.Prelude.{◌≡◌, ◌⊎◌, ℕ, Option, List}
use Rattle.decision_core.specs.ShelfCore.Outside.{also_opened}
use Rattle.view_plays.specs.declared.view_core.answer.Answer.{Answer}
use Rattle.view_plays.specs.declared.view_core.ask.View.{View}
use Rattle.view_plays.specs.ViewCore.Words.{AsksFor}

-- none, or just the description that the words name
abbrev pub OpensFor : List (List ℕ) → Option (List (List ℕ)) → Option (List (List ℕ)) → Type 0
OpensFor words before after =
    (after ≡ before)
    ⊎ ((view : View) × (desc : List ℕ) × AsksFor words desc view
    × (after ≡ also_opened before desc))

-- nothing is said of what is left of the open text
abbrev pub LeavesAny : Answer → Option (List ℕ) → Option (List ℕ) → Option (List (List ℕ))
    → Option (List (List ℕ)) → Type 0
LeavesAny answer old new before after = Unit {0}
